-- The goals that the search leaves. Assumes nothing.
use mathlib.Core.Path.{◌≡◌, sym, ap, ap₂, ◌∙◌}
use mathlib.Core.Bool.{◌&&◌, ◌||◌}
use Prim.Native.Nat.{ℕ, ◌+◌, ◌-◌}
use native.Mathlib.Omega.{arith}
use lib.Ieee.{binary64, add, lt}
use Rattle.points.specs.Carrying.{stepwise_from, gt}
use Rattle.points.specs.Inner.Sums.{sums}
use Rattle.points.proofs.AllOf.{and_one, and_assoc}
use Rattle.points.proofs.CarryingLaws.{sums-one}
use Rattle.points.proofs.carrying.climbs.Goals as goal
use Rattle.points.proofs.carrying.climbs.Goals.{After-loop}

-- nothing is left to ask
found : (c : After-loop) → let a = c.args in
    (stepwise_from lt a.x (sums a.amount a.h a.x) ≡ c.loop.rising)
    × (stepwise_from gt a.x (sums a.amount a.h a.x) ≡ c.loop.falling)
found c =
    let y = c.loop.y in
    let none : c.args.h - c.loop.counter ≡ 0 = omega arith in
    let rest = ap (λ (left : ℕ). sums c.args.amount left y) none in (
      c.loop.invariant.0 ∙ ap (λ ys. c.loop.rising && stepwise_from lt y ys) rest ∙ and_one c.loop.rising,
      c.loop.invariant.1 ∙ ap (λ ys. c.loop.falling && stepwise_from gt y ys) rest ∙ and_one c.loop.falling,
    )

pub loop-preserved : goal.loop-preserved
loop-preserved c =
    let a = c.args in
    let y = c.loop.y in
    let z = add binary64 y a.amount in
    let next = sums-one a.amount (a.h - c.loop.counter) (a.h - (c.loop.counter + 1)) y (omega arith) in (
      c.loop.invariant.0 ∙ ap (λ ys. c.loop.rising && stepwise_from lt y ys) next ∙ sym (and_assoc c.loop.rising (lt y z) _),
      c.loop.invariant.1 ∙ ap (λ ys. c.loop.falling && stepwise_from gt y ys) next ∙ sym (and_assoc c.loop.falling (lt z y) _),
    )

pub returns : goal.returns
returns c = sym (ap₂ ◌||◌ (found c).0 (found c).1)
