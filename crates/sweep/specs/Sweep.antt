-- The call sweep: it takes a table and writes the table of its sweep in h steps. Paper, sections 4 and 9.
--   swept_words                the words of the swept table
--   sweep_input                the call's input
--   sweep_tests                its refusals in order, but for row 15
--   sweep_rules, sweep_outcome, sweep_buffer
use Rattle.std.specs.Prelude.{not, ◌&&◌, ◌||◌, List, [], ◌∷◌, ◌++◌, ℕ, suc, eqb, ltb, length}
use Rattle.rules.specs.Limits.{max_source, max_vertices, max_cells, steps_ok, swept_vertices}
use Rattle.rules.specs.Shapes.{shape_ok}
use Rattle.rules.specs.Calls.{Rule, refuse, no_room, Outcome, decide, after}
use Rattle.records.specs.Layout.{entries_of, table_words, table_length}
use Rattle.solids.specs.Table.{sound}
use Rattle.prism.specs.Swept.{swept_table, swept_cells}

pub record SweepInput : Type 0 where
  pub d : ℕ
  pub v : ℕ
  pub s : ℕ
  pub h : ℕ
  pub table : List ℕ
  pub room : ℕ

-- the input of a call told these numbers and words, with room for so many words
abbrev pub sweep_input : ℕ → ℕ → ℕ → ℕ → List ℕ → ℕ → SweepInput
sweep_input d v s h ws room = record { d = d; v = v; s = s; h = h; table = ws; room = room }

abbrev pub swept_length : SweepInput → ℕ
swept_length i = table_length (suc i.d) (swept_cells i.d i.s i.h)

abbrev pub sweep_tests : List (Rule SweepInput)
sweep_tests =
    refuse 2 (λ i. not (shape_ok max_source i.d i.v i.s && steps_ok i.h))
    ∷ refuse 3 (λ i. not (eqb (length i.table) (table_length i.d i.s)))
    ∷ refuse 12 (λ i. ltb max_vertices (swept_vertices i.v i.h) || ltb max_cells (swept_cells i.d i.s i.h))
    ∷ refuse 14 (λ i. not (sound i.d i.v i.s i.table))
    ∷ []

unfoldable pub sweep_rules : List (Rule SweepInput)
sweep_rules = sweep_tests ++ no_room (λ i. i.room) swept_length ∷ []

-- the words of the swept table
unfoldable pub swept_words : SweepInput → List ℕ
swept_words i = table_words (swept_table i.d i.v i.s i.h (entries_of i.d i.s i.table))

unfoldable pub sweep_outcome : SweepInput → Outcome ℕ
sweep_outcome i = decide sweep_rules swept_length i

unfoldable pub sweep_buffer : SweepInput → List ℕ → List ℕ
sweep_buffer i out = after (sweep_outcome i) (swept_words i) out
