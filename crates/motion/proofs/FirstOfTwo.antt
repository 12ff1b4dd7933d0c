-- Two faults at once: the first row that applies is told. A refused call leaves the lent floats as they were.
use mathlib.Core.Path.{◌≡◌, refl}
use mathlib.Core.List.{[], ◌∷◌}
use lib.ListN.{length, replicate}
use lib.Ieee.{Float, binary64, of_bits}
use Rattle.rules.specs.Calls.{refused}
use Rattle.points.specs.declared.step.Step.TheVariants as S
use Rattle.points.proofs.Computing.{computing}
use Rattle.motion.specs.Move.{move_input, moved_levels, move_rules, move_outcome, move_buffer}

-- 0.0, 1.0, 1,048,575 and 1,048,576 by their bits; the last is out of range
abbrev zero : Float
zero = of_bits binary64 0

abbrev one : Float
one = of_bits binary64 0x3ff0000000000000

abbrev large : Float
large = of_bits binary64 0x412ffffe00000000

abbrev beyond : Float
beyond = of_bits binary64 0x4130000000000000

-- nine axes, and no point
pub limits_before-length : move_outcome (move_input 9 1 1 (S.Slide 0 one) [] 0) ≡ refused 2
unfolding computing move_rules move_outcome
limits_before-length = refl

-- no point, slid by a float out of range
pub length-before_range : move_outcome (move_input 1 1 1 (S.Slide 0 beyond) [] 0) ≡ refused 3
unfolding computing move_rules move_outcome
length-before_range = refl

-- slid by a float out of range, on axis 1 of one
pub range_before-step : move_outcome (move_input 1 1 1 (S.Slide 1 beyond) (one ∷ []) 0) ≡ refused 4
unfolding computing move_rules move_outcome
range_before-step = refl

-- 64 points in 64 steps, on axis 1 of one
pub step-before-size : move_outcome (move_input 1 64 64 (S.Slide 1 one) (replicate 64 one) 0) ≡ refused 5
unfolding computing move_rules move_outcome
step-before-size = refl

-- 64 points in 64 steps, the first of which leaves the range
pub size-before-moved : move_outcome (move_input 1 64 64 (S.Slide 0 one) (replicate 64 large) 0) ≡ refused 12
unfolding computing moved_levels move_rules move_outcome
size-before-moved = refl

-- points at two places on their axis, one of which leaves the range when slid along it
pub moved-before-carried : move_outcome (move_input 1 2 1 (S.Slide 0 one) (one ∷ large ∷ []) 4) ≡ refused 13
unfolding computing moved_levels move_rules move_outcome
moved-before-carried = refl

-- points at two places on their axis, slid along it, and no room
pub carried-before-room : move_outcome (move_input 1 2 1 (S.Slide 0 one) (one ∷ zero ∷ []) 0) ≡ refused 17
unfolding computing moved_levels move_rules move_outcome
carried-before-room = refl

-- a point that leaves the range, and no room
pub untouched : length (move_buffer (move_input 1 1 1 (S.Slide 0 one) (large ∷ []) 0) []) ≡ 0
unfolding computing moved_levels move_rules move_outcome move_buffer
untouched = refl
