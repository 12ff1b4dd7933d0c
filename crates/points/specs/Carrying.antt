-- Row 17: the step must leave the plane of the solid, so one axis must carry it. Paper, section 6.
-- Values are compared as numbers: -0 equals 0, and a NaN equals nothing.
--   flat xs               all values are equal
--   rises xs, falls xs    each value is strictly above, strictly below the one before
--   carried ls            flat at every level, and the levels rise at every step, or fall at every step
--   on_axis n v h a ls     of levels 0 to h of v points of n axes, the values on axis a, level by level
--   carrying_axes n step   the axes that can carry a step: those of a slide or a slant, the last of a turn
--   carries               one of them carries the step, or there are no vertices
use Rattle.std.specs.Prelude.{Bool, true, ◌&&◌, ◌||◌, List, [], ◌∷◌, map, ℕ, suc, ◌*◌, ◌-◌, eqb, get_or, Float}
use Rattle.std.specs.Float.{nan}
use Rattle.std.specs.Float.Ieee.{eq, lt}
use Rattle.words.specs.Records.{tabulate, part, any_of, all_of}
use Rattle.points.specs.declared.step.Step.{Step}
use Rattle.points.specs.declared.step.Step.TheVariants as S

abbrev pub first : List Float → Float
first xs = get_or xs 0 nan

abbrev pub flat : List Float → Bool
flat xs = all_of (eq (first xs)) xs

-- whether r holds from each value to the next
abbrev pub stepwise_from : (Float → Float → Bool) → Float → List Float → Bool
stepwise_from r x [] = true
stepwise_from r x (y ∷ ys) = r x y && stepwise_from r y ys

abbrev pub stepwise : (Float → Float → Bool) → List Float → Bool
stepwise r [] = true
stepwise r (x ∷ xs) = stepwise_from r x xs

abbrev pub gt : Float → Float → Bool
gt x y = lt y x

abbrev pub rises : List Float → Bool
rises xs = stepwise lt xs

abbrev pub falls : List Float → Bool
falls xs = stepwise gt xs

-- a level is the list of its vertices' values; where they are equal, its first is the level's value
unfoldable pub carried : List (List Float) → Bool
carried ls = all_of flat ls && (rises (map first ls) || falls (map first ls))

abbrev pub on_axis : ℕ → ℕ → ℕ → ℕ → List Float → List (List Float)
on_axis n v h a ls = tabulate (suc h) (λ i. tabulate v (λ k. get_or (part n k (part (v * n) i ls)) a nan))

abbrev pub carrying_axes : ℕ → Step → List ℕ
carrying_axes n (S.Slide a x) = a ∷ []
carrying_axes n (S.Slant a x b y) = a ∷ b ∷ []
carrying_axes n (S.Turn t) = (n - 1) ∷ []

unfoldable pub carries : Step → ℕ → ℕ → ℕ → List Float → Bool
carries step n v h ls = eqb v 0 || any_of (λ a. carried (on_axis n v h a ls)) (carrying_axes n step)
