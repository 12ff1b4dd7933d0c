-- `in_range` answers the definition of its name. Assumes nothing.
use mathlib.Core.Path.{refl}
use Rattle.points.specs.Step.{in_range}
use Rattle.points.proofs.range.in_range.Goals as goal

pub returns : goal.returns
unfolding in_range
returns c = refl
