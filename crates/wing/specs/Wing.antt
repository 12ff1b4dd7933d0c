-- The call wing: it takes a list of cells and writes its table, and the wings in uploaded order to a further buffer.
-- Paper, sections 3 and 9.
--   WingInput         the list, and the rooms of the two lent buffers in words
--   wing_input         the input of these numbers, these words and these rooms
--   wing_tests         its refusals of a list, in order
--   wing_rules         these, and row 15, of either buffer
--   wing_length, uploaded_length    the counts of words of the table, and of the wings in uploaded order
--   wing_outcome       the count of words of the table, or the refusal
--   wing_buffer        the buffer lent for the table after the call
--   uploaded_buffer    the further buffer after the call
use Rattle.std.specs.Prelude.{not, ◌||◌, List, [], ◌∷◌, ◌++◌, map, ℕ, ◌*◌, eqb, ltb, length}
use Rattle.rules.specs.Limits.{max_dimension}
use Rattle.rules.specs.Shapes.{shape_ok}
use Rattle.rules.specs.Calls.{Rule, refuse, on_part, Outcome, decide, after}
use Rattle.records.specs.Layout.{list_size, table_length, wings_length}
use Rattle.solids.specs.Accept.{Listed, solid_rules}
use Rattle.solids.specs.Table.{table_of_list}
use Rattle.solids.specs.Uploaded.{uploaded_of_list}

pub record WingInput : Type 0 where
  pub list : Listed
  pub room : ℕ
  pub uploaded_room : ℕ

abbrev pub wing_input : ℕ → ℕ → ℕ → List ℕ → ℕ → ℕ → WingInput
wing_input d v s cells room further = record { list = record { d = d; v = v; s = s; words = cells }; room = room; uploaded_room = further }

abbrev pub wing_tests : List (Rule Listed)
wing_tests =
    refuse 2 (λ l. not (shape_ok max_dimension l.d l.v l.s))
    ∷ refuse 3 (λ l. not (eqb (length l.words) (l.s * list_size l.d)))
    ∷ solid_rules

abbrev pub wing_length : WingInput → ℕ
wing_length i = table_length i.list.d i.list.s

abbrev pub uploaded_length : WingInput → ℕ
uploaded_length i = wings_length i.list.d i.list.s

unfoldable pub wing_rules : List (Rule WingInput)
wing_rules =
    map (on_part (λ (i : WingInput). i.list)) wing_tests
    ++ refuse 15 (λ i. ltb i.room (wing_length i) || ltb i.uploaded_room (uploaded_length i)) ∷ []

unfoldable pub wing_outcome : WingInput → Outcome ℕ
wing_outcome i = decide wing_rules wing_length i

unfoldable pub wing_buffer : WingInput → List ℕ → List ℕ
wing_buffer i out = after (wing_outcome i) (table_of_list i.list) out

unfoldable pub uploaded_buffer : WingInput → List ℕ → List ℕ
uploaded_buffer i out = after (wing_outcome i) (uploaded_of_list i.list) out
