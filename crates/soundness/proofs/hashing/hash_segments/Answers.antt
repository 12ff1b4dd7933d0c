-- The goals that the search leaves. Assumes nothing.
use mathlib.Core.Path.{◌≡◌, subst}
use Prim.Native.Nat.{◌*◌}
use native.Mathlib.Omega.{arith}
use Rattle.soundness.specs.Inner.Hashing.{Hashes}
use Rattle.soundness.proofs.hashing.hash_segments.Goals as goal

pub returns : goal.returns
returns c =
    let a = c.args in
    let i = c.loop-p.invariant in
    let e : c.loop-p.p ≡ a.s = omega arith in
    record {
      hashed = subst (λ x. Hashes 1 a.table.now c.loop-p.hash (x * 2)) e i.1;
      long = i.0;
    }
