-- `stays` answers `stays_in`. The invariant: what is asked of the point is what is left to ask of the moved one. Assumes nothing.
use mathlib.Core.Path.{◌≡◌}
use Prim.Native.Nat.{◌-◌}
use lib.ListN.{take, length}
use Rattle.points.specs.Inner.Stay.{stays_in}
use Rattle.points.proofs.levels.stays.Given as goal

abbrev pub invariant-loop : goal.invariant-loop
invariant-loop l = (length l.q ≡ 8) × (stays_in l.step l.n l.h (take l.n l.initial.q) ≡ stays_in l.step l.n (l.h - l.counter) (take l.n l.q))
