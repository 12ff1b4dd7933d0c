-- `out_of_range` answers row 4. Assumes nothing.
use mathlib.Core.Path.{ap₂}
use mathlib.Core.Bool.{not, ◌&&◌}
use Rattle.file.proofs.floats.out_of_range.Goals as goal

pub returns : goal.returns
returns c = ap₂ (λ a b. not (a && b)) c.amounts_in_range.ensures c.points_in_range.ensures
