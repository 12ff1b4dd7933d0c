-- `flat` answers `flat`, of the values on one axis. The invariant: those before k are equal to the first. Assumes nothing.
use mathlib.Core.Path.{◌≡◌}
use lib.Ieee.{eq}
use lib.ListN.{drop}
use Rattle.words.specs.Records.{all_of}
use Rattle.points.specs.Carrying.{flat}
use Rattle.points.specs.Inner.Sums.{column}
use Rattle.points.proofs.carrying.flat.Given as goal

abbrev pub invariant-loop-k : goal.invariant-loop-k
invariant-loop-k l = flat (column l.n l.v l.a l.points) ≡ all_of (eq l.x) (drop l.k (column l.n l.v l.a l.points))
