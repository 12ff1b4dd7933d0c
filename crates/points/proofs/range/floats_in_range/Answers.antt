-- `floats_in_range` answers rule 4. Assumes nothing.
use mathlib.Core.Path.{ap₂}
use mathlib.Core.Bool.{◌&&◌}
use Rattle.points.proofs.range.floats_in_range.Goals as goal

pub returns : goal.returns
returns c = ap₂ ◌&&◌ c.step_in_range.ensures c.all_in_range.ensures
