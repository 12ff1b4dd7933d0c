-- The call faces: it takes a table and writes one record for each boundary face: sign word, d vertices, material. Paper, sections 5 and 9.
--   faces_input            what the call is told
--   boundary_cells i       the boundary of the table
--   faces_tests            its refusals in order, but for row 15
--   faces_rules, faces_outcome (the count of records), faces_buffer
use Rattle.std.specs.Prelude.{not, List, [], ◌∷◌, ◌++◌, ℕ, ◌*◌, eqb, length}
use Rattle.rules.specs.Limits.{max_dimension}
use Rattle.rules.specs.Shapes.{shape_ok}
use Rattle.rules.specs.Calls.{Rule, refuse, no_room, Outcome, decide, after}
use Rattle.simplex.specs.Cell.{Cell}
use Rattle.records.specs.Layout.{entries_of, faces_words, face_size, table_length}
use Rattle.solids.specs.Table.{sound}
use Rattle.boundary.specs.Boundary.{boundary_of}

pub record FacesInput : Type 0 where
  pub d : ℕ
  pub v : ℕ
  pub s : ℕ
  pub table : List ℕ
  pub room : ℕ

abbrev pub faces_input : ℕ → ℕ → ℕ → List ℕ → ℕ → FacesInput
faces_input d v s ws room = record { d = d; v = v; s = s; table = ws; room = room }

unfoldable pub boundary_cells : FacesInput → List Cell
boundary_cells i = boundary_of (entries_of i.d i.s i.table)

abbrev pub faces_length : FacesInput → ℕ
faces_length i = length (boundary_cells i) * face_size i.d

abbrev pub faces_tests : List (Rule FacesInput)
faces_tests =
    refuse 2 (λ i. not (shape_ok max_dimension i.d i.v i.s))
    ∷ refuse 3 (λ i. not (eqb (length i.table) (table_length i.d i.s)))
    ∷ refuse 14 (λ i. not (sound i.d i.v i.s i.table))
    ∷ []

unfoldable pub faces_rules : List (Rule FacesInput)
faces_rules = faces_tests ++ no_room (λ i. i.room) faces_length ∷ []

unfoldable pub faces_outcome : FacesInput → Outcome ℕ
faces_outcome i = decide faces_rules (λ i. length (boundary_cells i)) i

unfoldable pub faces_buffer : FacesInput → List ℕ → List ℕ
faces_buffer i out = after (faces_outcome i) (faces_words (boundary_cells i)) out
