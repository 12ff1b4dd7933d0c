-- `pair_at` is `side_pair`, on the same test. Assumes nothing.
use Rattle.std.proofs.Common.{ℕ, ◌+◌, ◌-◌, refl, ap, add-one, le-ltb, lt-ltb}
use Rattle.prism.specs.Sides.{side}
use Rattle.sweeping.specs.SidePairs.{declared_pair}
use Rattle.sweeping.proofs.sides.pair_at.Goals as goal

pub returns-then-l-a : goal.returns-then-l-a
returns-then-l-a c = rw (lt-ltb _ _ c.if-l-a.true) refl

pub returns : goal.returns
returns c =
    let a = c.args in
    rw (le-ltb _ _ c.if-l-a.false) (ap (λ (k : ℕ). declared_pair (side k (a.d + a.a - a.l))) (add-one a.l))
