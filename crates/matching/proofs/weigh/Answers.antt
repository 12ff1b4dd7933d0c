-- The goals that the search leaves. Assumes nothing.
use mathlib.Core.Path.{refl}
use Prim.Native.Nat.{ℕ}
use native.Mathlib.Nat.{not-suc-le-zero}
use native.Mathlib.Omega.{arith}
use lib.ListN.{length-replicate}
use Rattle.matching.proofs.Weights.{weighed_all, weighed_more, weighed_no_more}
use Rattle.matching.proofs.weigh.Goals as goal
use Rattle.matching.proofs.weigh.Goals.{then-j-k, else-j-k}

pub loop-j-init : goal.loop-j-init
loop-j-init c =
    (record { long = length-replicate {A = ℕ} 8 0; each = λ a h l. absurd (not-suc-le-zero h); total = refl }, omega arith)

pub bounds-terms-j : goal.bounds-terms-j
bounds-terms-j c = omega (arith, c.loop-j.invariant.0.long)

pub loop-j-preserved : goal.loop-j-preserved
loop-j-preserved c =
    let l = c.loop-j in
    let a = (c.args) in
    elim c.if-j-k.branch [
      | then-j-k w ↦ (
        rw (w.sum-is, w.terms-is)
            (weighed_more a.rows.now a.p _ l.j _ l.terms (omega arith) (omega arith) l.invariant.0 _ w.if-j-k.true w.term-t.ensures.0),
        omega (arith, w.sum-is),
      )
      | else-j-k w ↦ (
        rw (w.sum-is, w.terms-is) (weighed_no_more a.rows.now a.p _ l.j _ l.terms (omega arith) (omega arith) l.invariant.0 w.if-j-k.false),
        omega (arith, w.sum-is),
      )
    ]

pub returns : goal.returns
returns c =
    let l = c.loop-j in
    let a = (c.args) in
    let all = weighed_all a.rows.now a.p a.k l.j l.sum l.terms (omega arith) l.invariant.0 in
    record { terms = all.0; sum = all.1 }
