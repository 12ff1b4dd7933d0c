-- Levels of points. A list of points of n axes is a list of floats, vertex by vertex. Paper, section 6.
--   moved_all step n v ps      all v points after the step
--   level_of step n v ps i     level i: the step applied to the level before; level 0 is the lent points
--   levels step n v h ps      levels 0 to h, in order
--   sum_of m i x               x with m added i times, each sum rounded: what i slides by m make of a coordinate
use Rattle.std.specs.Prelude.{List, ℕ, zero, suc, Float}
use Rattle.std.specs.Float.{binary64}
use Rattle.std.specs.Float.Ieee.{add}
use Rattle.words.specs.Records.{tabulate, part, concat}
use Rattle.points.specs.declared.step.Step.{Step}
use Rattle.points.specs.Step.{moved_point}

abbrev pub moved_all : Step → ℕ → ℕ → List Float → List Float
moved_all step n v ps = concat (tabulate v (λ p. moved_point step n (part n p ps)))

abbrev pub level_of : Step → ℕ → ℕ → List Float → ℕ → List Float
level_of step n v ps zero = ps
level_of step n v ps (suc i) = moved_all step n v (level_of step n v ps i)

abbrev pub levels : Step → ℕ → ℕ → ℕ → List Float → List Float
levels step n v h ps = concat (tabulate (suc h) (level_of step n v ps))

abbrev pub sum_of : Float → ℕ → Float → Float
sum_of m zero x = x
sum_of m (suc i) x = add binary64 (sum_of m i x) m
