-- What becomes of a list of cells whose numbers and length are right: its table, or why not. The wings in uploaded order
-- go to a further buffer; here it is only its room that counts.
--   list_with d v s ws         the list
--   table_rules room further   rows 6 to 11, and 15
--   table_outcome d v s ws room further    the count of words of its table, or the first of these rows that refuses it
--   table_after d v s ws further out   the lent words after: the table from their start, or as they were
use Rattle.std.specs.Prelude.{◌||◌, List, [], ◌∷◌, ◌++◌, ℕ, ltb, length}
use Rattle.rules.specs.Calls.{Rule, refuse, Outcome, decide, after}
use Rattle.solids.specs.Accept.{Listed, solid_rules}
use Rattle.records.specs.Layout.{table_length, wings_length}
use Rattle.solids.specs.Table.{table_of_list}

abbrev pub list_with : ℕ → ℕ → ℕ → List ℕ → Listed
list_with d v s ws = record { d = d; v = v; s = s; words = ws }

-- words of the list's table, and of its wings
abbrev pub word_count : Listed → ℕ
word_count l = table_length l.d l.s

abbrev pub wing_count : Listed → ℕ
wing_count l = wings_length l.d l.s

-- row 15
abbrev pub too_short : ℕ → ℕ → Rule Listed
too_short room further = refuse 15 (λ l. ltb room (word_count l) || ltb further (wing_count l))

abbrev pub table_rules : ℕ → ℕ → List (Rule Listed)
table_rules room further = solid_rules ++ too_short room further ∷ []

unfoldable pub table_outcome : ℕ → ℕ → ℕ → List ℕ → ℕ → ℕ → Outcome ℕ
table_outcome d v s ws room further = decide (table_rules room further) word_count (list_with d v s ws)

unfoldable pub table_after : ℕ → ℕ → ℕ → List ℕ → ℕ → List ℕ → List ℕ
table_after d v s ws further out = after (table_outcome d v s ws (length out) further) (table_of_list (list_with d v s ws)) out
