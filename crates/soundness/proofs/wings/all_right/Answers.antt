-- The goals that the search leaves. Assumes nothing.
use mathlib.Core.Path.{◌≡◌, ap, ◌∙◌, subst}
use mathlib.Core.Bool.{false≢true}
use Prim.Native.Nat.{suc, ◌+◌, ◌*◌, ◌≤◌}
use native.Mathlib.Nat.{suc-mul}
use native.Mathlib.Numerals.{add-one}
use native.Mathlib.Omega.{arith}
use borrow.Author.Tests.{eqb-true}
use Rattle.soundness.specs.Inner.Pairing.{Paired}
use Rattle.soundness.proofs.Passing.{all_done}
use Rattle.soundness.proofs.wings.all_right.Goals as goal
use Rattle.soundness.proofs.wings.all_right.Goals.{then-a-d, else-a-d}

pub returns-then-n-eq-GIVEN_UP : goal.returns-then-n-eq-GIVEN_UP
returns-then-n-eq-GIVEN_UP c =
    let i = c.loop-g.invariant in
    record {
      right = (λ z. absurd (false≢true z));
      long = (c.pass-n.auto.head ∙ i.3, c.pass-n.auto.next ∙ i.4);
    }

pub loop-g-preserved : goal.loop-g-preserved
loop-g-preserved c =
    let i = c.loop-g.invariant in
    let k = suc c.args.d in
    let next : (c.loop-g.g + 1 ≡ c.if-a-d.p * k + c.if-a-d.a) × (c.if-a-d.a ≤ c.args.d) = elim c.if-a-d.branch [
      | then-a-d w ↦ (omega (arith, i.1, ap (λ p. p * k) w.p-is), omega arith)
      | else-a-d w ↦ (omega (arith, i.1, i.2, ap (λ p. p * k) w.p-is, suc-mul c.loop-g.p k, add-one c.loop-g.p), omega arith)
    ] in (
      c.pass-n.ensures c.if-n-eq-GIVEN_UP.false,
      next.0,
      next.1,
      c.pass-n.auto.head ∙ i.3,
      c.pass-n.auto.next ∙ i.4,
    )

pub returns : goal.returns
returns c =
    let a = c.args in
    let i = c.loop-g.invariant in
    let e : c.loop-g.g ≡ a.s * suc a.d = omega (arith, c.wings_words-keys.ensures) in record {
      right = (λ z. all_done a.d a.table.now (a.s * suc a.d)
          (subst (λ m. Paired a.d a.table.now m 0) e
          (subst (λ n. Paired a.d a.table.now c.loop-g.g n) (eqb-true _ _ z) i.0.paired)));
      long = (i.3, i.4);
    }
