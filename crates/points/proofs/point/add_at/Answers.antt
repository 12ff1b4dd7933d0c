-- `add_at` leaves `add_at`. Assumes nothing.
use mathlib.Core.Path.{refl}
use Rattle.points.specs.Step.{add_at}
use Rattle.points.proofs.point.add_at.Goals as goal

pub returns : goal.returns
unfolding add_at
returns c = refl
