-- `climbs` answers `climbs`. The invariant: what is asked of x is what was found, and what is left to ask of y. Assumes nothing.
use mathlib.Core.Path.{◌≡◌}
use mathlib.Core.Bool.{◌&&◌}
use Prim.Native.Nat.{◌-◌}
use lib.Ieee.{lt}
use Rattle.points.specs.Carrying.{stepwise_from, gt}
use Rattle.points.specs.Inner.Sums.{sums}
use Rattle.points.proofs.carrying.climbs.Given as goal

abbrev pub invariant-loop : goal.invariant-loop
invariant-loop l =
    (stepwise_from lt l.x (sums l.amount l.h l.x) ≡ (l.rising && stepwise_from lt l.y (sums l.amount (l.h - l.counter) l.y)))
    × (stepwise_from gt l.x (sums l.amount l.h l.x) ≡ (l.falling && stepwise_from gt l.y (sums l.amount (l.h - l.counter) l.y)))
