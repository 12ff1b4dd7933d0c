-- `turn` leaves `turned`. Assumes nothing.
use mathlib.Core.Path.{refl}
use Rattle.points.specs.Step.{turned}
use Rattle.points.proofs.point.turn.Goals as goal

pub returns : goal.returns
unfolding turned
returns c = refl
