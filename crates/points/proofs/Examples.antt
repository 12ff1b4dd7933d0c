-- Which levels carry a step, computed: levels as lists of the values that the vertices have on one axis.
use mathlib.Core.Path.{◌≡◌, refl}
use mathlib.Core.Bool.{true, false}
use mathlib.Core.List.{[], ◌∷◌}
use lib.Ieee.{Float, binary64, of_bits}
use Rattle.points.specs.Carrying.{carried, carries}
use Rattle.points.specs.declared.step.Step.TheVariants as S
use Rattle.points.proofs.Computing.{computing}

-- by their bits: 0, -0, 1 and 2
abbrev nought : Float
nought = of_bits binary64 0

abbrev negative : Float
negative = of_bits binary64 0x8000000000000000

abbrev one : Float
one = of_bits binary64 0x3ff0000000000000

abbrev two : Float
two = of_bits binary64 0x4000000000000000

pub rising : carried ((nought ∷ nought ∷ []) ∷ (one ∷ one ∷ []) ∷ (two ∷ two ∷ []) ∷ []) ≡ true
unfolding computing
rising = refl

pub falling : carried ((two ∷ []) ∷ (one ∷ []) ∷ (nought ∷ []) ∷ []) ≡ true
unfolding computing
falling = refl

-- upwards, and then back
pub up_and_down : carried ((nought ∷ []) ∷ (one ∷ []) ∷ (nought ∷ []) ∷ []) ≡ false
unfolding computing
up_and_down = refl

-- the second step stands still
pub standing_still : carried ((nought ∷ []) ∷ (one ∷ []) ∷ (one ∷ []) ∷ []) ≡ false
unfolding computing
standing_still = refl

pub zeros_are_flat : carried ((nought ∷ negative ∷ []) ∷ (one ∷ one ∷ []) ∷ []) ≡ true
unfolding computing
zeros_are_flat = refl

-- flat at level 0 alone, and at level 1 alone
pub parting : carried ((nought ∷ nought ∷ []) ∷ (one ∷ two ∷ []) ∷ []) ≡ false
unfolding computing
parting = refl

pub meeting : carried ((nought ∷ one ∷ []) ∷ (two ∷ two ∷ []) ∷ []) ≡ false
unfolding computing
meeting = refl

-- three vertices on one axis, of which the last stands elsewhere
pub last-vertex : carries (S.Slide 0 one) 1 3 1 (nought ∷ nought ∷ one ∷ one ∷ one ∷ two ∷ []) ≡ false
unfolding computing
last-vertex = refl

-- a vertex that a turn takes from axis 0 to axis 1, and no higher
pub turned_in_place : carries (S.Turn (record { c = nought; s = one; rise = nought })) 3 1 1
    (one ∷ nought ∷ nought ∷ nought ∷ one ∷ nought ∷ []) ≡ false
unfolding computing
turned_in_place = refl

-- a slant that is flat on its second axis alone
pub second_axis : carries (S.Slant 0 one 1 one) 2 2 1 (nought ∷ nought ∷ one ∷ nought ∷ one ∷ one ∷ two ∷ one ∷ []) ≡ true
unfolding computing
second_axis = refl

pub without-vertices : carries (S.Slide 0 nought) 1 0 1 [] ≡ true
unfolding computing
without-vertices = refl
