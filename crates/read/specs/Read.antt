-- The call read: it takes a file's bytes, writes its cells and its points, and answers the header. Paper, sections 7 and 9.
--   read_input b cells points     the input: the bytes, and the lengths of the two lent buffers
--   header_of b            the header's numbers, its version among them, and the step
--   read_tests             its refusals in order, but for row 15
--   read_rules, read_outcome (the header), read_cells and read_points (the two lent buffers)
use Rattle.std.specs.Prelude.{not, ◌||◌, List, [], ◌∷◌, ◌++◌, ℕ, eqb, ltb, length, Float, Result, Ok, Err}
use Rattle.words.specs.Records.{any_of}
use Rattle.rules.specs.Calls.{Rule, refuse, Outcome, accepted, refused, decide, after}
use Rattle.rules.specs.Numbers.{number_of}
use Rattle.solids.specs.Accept.{vertex_beyond, vertex_twice, bad_material}
use Rattle.points.specs.Step.{step_fits}
use Rattle.file.specs.File.{version_of, dimension_of, axes_of, vertex_count_of, cell_count_of, steps_of, step_of, unused_set, point_count}
use Rattle.file.specs.File.{file_length}
use Rattle.file.specs.File.{file_points, sign_bytes, file_cells}
use Rattle.file.specs.Tests.{not_ours, numbers_ok, floats_ok, cells_length, file_words}
use Rattle.read.specs.declared.Header.{Header}
use Rattle.rules.specs.declared.refusal.Refusal.{Refusal}

pub record ReadInput : Type 0 where
  pub bytes : List ℕ
  pub cell_room : ℕ
  pub point_room : ℕ

abbrev pub read_input : List ℕ → ℕ → ℕ → ReadInput
read_input b cells points = record { bytes = b; cell_room = cells; point_room = points }

abbrev pub read_tests : List (Rule ReadInput)
read_tests =
    refuse 1 (λ i. not_ours i.bytes)
    ∷ refuse 2 (λ i. not (numbers_ok i.bytes))
    ∷ refuse 3 (λ i. not (eqb (length i.bytes) (file_length i.bytes)))
    ∷ refuse 4 (λ i. not (floats_ok i.bytes))
    ∷ refuse 5 (λ i. not (step_fits (axes_of i.bytes) (step_of i.bytes)) || unused_set i.bytes)
    ∷ refuse 6 (λ i. any_of (λ x. not (eqb x 43 || eqb x 45)) (sign_bytes i.bytes))
    ∷ refuse 7 (λ i. vertex_beyond (vertex_count_of i.bytes) (file_cells i.bytes))
    ∷ refuse 8 (λ i. vertex_twice (file_cells i.bytes))
    ∷ refuse 18 (λ i. bad_material (file_cells i.bytes))
    ∷ []

unfoldable pub read_rules : List (Rule ReadInput)
read_rules = read_tests ++ refuse 15 (λ i. ltb i.cell_room (cells_length i.bytes) || ltb i.point_room (point_count i.bytes)) ∷ []

unfoldable pub header_of : List ℕ → Header
header_of b =
    record { version = version_of b; d = dimension_of b; n = axes_of b; v = vertex_count_of b; s = cell_count_of b; h = steps_of b; step = step_of b }

unfoldable pub read_outcome : ReadInput → Outcome Header
read_outcome i = decide read_rules (λ i. header_of i.bytes) i

unfoldable pub read_cells : ReadInput → List ℕ → List ℕ
read_cells i out = after (read_outcome i) (file_words i.bytes) out

unfoldable pub read_points : ReadInput → List Float → List Float
read_points i out = after (read_outcome i) (file_points i.bytes) out

-- what the cases of read's answer mean
abbrev pub header_outcome : Result Header Refusal → Outcome Header
header_outcome (Ok h) = accepted h
header_outcome (Err r) = refused (number_of r)
