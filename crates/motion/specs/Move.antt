-- The call move (move_points in code, since move is a keyword): it takes points and writes levels 0 to h. Paper, sections 6 and 9.
--   move_input                  what the call is told: numbers, step, lent points, room in the lent buffer
--   move_tests                  its refusals in order, but for row 15; level_tests, those of the levels
--   move_rules, move_outcome (the count of floats), move_buffer
use Rattle.std.specs.Prelude.{Bool, not, ◌&&◌, List, [], ◌∷◌, ◌++◌, ℕ, ◌*◌, eqb, ltb, length, Float}
use Rattle.words.specs.Records.{all_of}
use Rattle.rules.specs.Limits.{axes_ok, vertices_ok, steps_ok, max_vertices, swept_vertices}
use Rattle.rules.specs.Calls.{Rule, refuse, no_room, Outcome, decide, after}
use Rattle.points.specs.declared.step.Step.{Step}
use Rattle.points.specs.Step.{in_range, step_fits, step_floats}
use Rattle.points.specs.Levels.{levels}
use Rattle.points.specs.Carrying.{carries}

pub record MoveInput : Type 0 where
  pub n : ℕ
  pub v : ℕ
  pub h : ℕ
  pub step : Step
  pub points : List Float
  pub room : ℕ

abbrev pub move_input : ℕ → ℕ → ℕ → Step → List Float → ℕ → MoveInput
move_input n v h step ps room = record { n = n; v = v; h = h; step = step; points = ps; room = room }

unfoldable pub moved_levels : MoveInput → List Float
moved_levels i = levels i.step i.n i.v i.h i.points

-- row 17: an axis carries the step through the levels
abbrev pub step_carries : MoveInput → Bool
step_carries i = carries i.step i.n i.v i.h (moved_levels i)

abbrev pub moved_length : MoveInput → ℕ
moved_length i = swept_vertices i.v i.h * i.n

abbrev pub level_tests : List (Rule MoveInput)
level_tests =
    refuse 12 (λ i. ltb max_vertices (swept_vertices i.v i.h))
    ∷ refuse 13 (λ i. not (all_of in_range (moved_levels i)))
    ∷ refuse 17 (λ i. not (step_carries i))
    ∷ []

abbrev pub move_tests : List (Rule MoveInput)
move_tests =
    refuse 2 (λ i. not (axes_ok i.n && (vertices_ok i.v && steps_ok i.h)))
    ∷ refuse 3 (λ i. not (eqb (length i.points) (i.v * i.n)))
    ∷ refuse 4 (λ i. not (all_of in_range (step_floats i.step) && all_of in_range i.points))
    ∷ refuse 5 (λ i. not (step_fits i.n i.step))
    ∷ level_tests

unfoldable pub move_rules : List (Rule MoveInput)
move_rules = move_tests ++ no_room (λ i. i.room) moved_length ∷ []

unfoldable pub move_outcome : MoveInput → Outcome ℕ
move_outcome i = decide move_rules moved_length i

unfoldable pub move_buffer : MoveInput → List Float → List Float
move_buffer i out = after (move_outcome i) (moved_levels i) out
