-- The call move on numbers and bytes: the step by its kind, two axes and three floats' bits, the points' floats decoded. Paper, section 10.
--   told_step t        the step
--   unused_set t       a part that this kind of step leaves unused is not zero
--   MoveTold          what the call is told: numbers, step, the points' bytes, the floats that the lent buffer holds
--   host_move_rules, host_move_outcome (the count of floats), host_move_buffer
use Rattle.std.specs.Prelude.{Bool, not, cond, ◌&&◌, ◌||◌, List, [], ◌∷◌, ◌++◌, map, ℕ, ◌*◌, eqb, length}
use Rattle.std.specs.Float.{binary64}
use Rattle.std.specs.Float.Ieee.{of_bits}
use Rattle.words.specs.Records.{all_of}
use Rattle.rules.specs.Limits.{axes_ok, vertices_ok, steps_ok, within}
use Rattle.rules.specs.Calls.{Rule, refuse, on_part, no_room, Outcome, decide, after}
use Rattle.points.specs.declared.step.Step.{Step}
use Rattle.points.specs.declared.step.Step.TheVariants as S
use Rattle.points.specs.Step.{in_range, step_fits, step_floats}
use Rattle.motion.specs.Move.{MoveInput, move_input, moved_levels, moved_length, level_tests}
use Rattle.hosting.specs.Floats.{floats64, float_bytes}
use Rattle.hosting.specs.declared.step_bits.StepBits.{StepBits}

-- 1 slide, 2 slant, 3 turn
abbrev pub told_step : StepBits → Step
told_step t =
    cond (eqb t.kind 1) (S.Slide t.axis (of_bits binary64 t.a))
    (cond (eqb t.kind 2) (S.Slant t.axis (of_bits binary64 t.a) t.other (of_bits binary64 t.b))
    (S.Turn (record { c = of_bits binary64 t.a; s = of_bits binary64 t.b; rise = of_bits binary64 t.c })))

-- one of three numbers is not 0
abbrev pub any_set : ℕ → ℕ → ℕ → Bool
any_set x y z = not (eqb x 0) || (not (eqb y 0) || not (eqb z 0))

abbrev pub unused_set : StepBits → Bool
unused_set t =
    cond (eqb t.kind 1) (any_set t.other t.b t.c)
    (cond (eqb t.kind 2) (any_set 0 0 t.c) (any_set t.axis t.other 0))

pub record MoveTold : Type 0 where
  pub n : ℕ
  pub v : ℕ
  pub h : ℕ
  pub step : StepBits
  pub points : List ℕ
  pub room : ℕ

abbrev pub move_told : ℕ → ℕ → ℕ → StepBits → List ℕ → ℕ → MoveTold
move_told n v h t ps room = record { n = n; v = v; h = h; step = t; points = ps; room = room }

abbrev pub told_move : MoveTold → MoveInput
told_move i = move_input i.n i.v i.h (told_step i.step) (floats64 i.points) i.room

unfoldable pub host_move_rules : List (Rule MoveTold)
host_move_rules =
    refuse 2 (λ i. not ((axes_ok i.n && (vertices_ok i.v && steps_ok i.h)) && within 1 3 i.step.kind))
    ∷ refuse 3 (λ i. not (eqb (length i.points) (i.v * i.n * 8)))
    ∷ refuse 4 (λ i. not (all_of in_range (step_floats (told_step i.step)) && all_of in_range (floats64 i.points)))
    ∷ refuse 5 (λ i. not (step_fits i.n (told_step i.step)) || unused_set i.step)
    ∷ map (on_part told_move) level_tests
    ++ no_room (λ i. i.room) (λ i. moved_length (told_move i)) ∷ []

unfoldable pub host_move_outcome : MoveTold → Outcome ℕ
host_move_outcome i = decide host_move_rules (λ i. moved_length (told_move i)) i

unfoldable pub host_move_buffer : MoveTold → List ℕ → List ℕ
host_move_buffer i out = after (host_move_outcome i) (float_bytes (moved_levels (told_move i))) out
