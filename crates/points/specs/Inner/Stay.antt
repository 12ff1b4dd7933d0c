-- Whether points stay in the range of rule 4 while they are moved, told point by point.
--   stays_in step n h p        the point p, of n axes, after each of 1 to h steps
--   all_stay step n v h ps     each of the v points
use Rattle.std.specs.Prelude.{Bool, true, ◌&&◌, List, ℕ, zero, suc, Float}
use Rattle.words.specs.Records.{tabulate, part, all_of}
use Rattle.points.specs.declared.step.Step.{Step}
use Rattle.points.specs.Step.{in_range, moved_point}

abbrev pub stays_in : Step → ℕ → ℕ → List Float → Bool
stays_in step n zero p = true
stays_in step n (suc h) p = all_of in_range (moved_point step n p) && stays_in step n h (moved_point step n p)

abbrev pub all_stay : Step → ℕ → ℕ → ℕ → List Float → Bool
all_stay step n v h ps = all_of (stays_in step n h) (tabulate v (λ k. part n k ps))
