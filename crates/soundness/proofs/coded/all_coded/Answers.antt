-- The goals that the search leaves. Assumes nothing.
use mathlib.Core.Path.{◌≡◌, ◌∙◌, subst}
use mathlib.Core.Bool.{false≢true}
use Prim.Native.Nat.{suc, ◌*◌}
use native.Mathlib.Omega.{arith}
use borrow.Author.Tests.{eqb-true}
use Rattle.soundness.specs.Inner.Pairing.{Paired}
use Rattle.soundness.proofs.Passing.{all_done}
use Rattle.soundness.proofs.coded.all_coded.Goals as goal

pub returns-then-n-eq-GIVEN_UP : goal.returns-then-n-eq-GIVEN_UP
returns-then-n-eq-GIVEN_UP c =
    let i = c.loop-g.invariant in
    record {
      right = (λ z. absurd (false≢true z));
      long = (c.pass-n.auto.head ∙ i.1, c.pass-n.auto.next ∙ i.2);
    }

pub loop-g-preserved : goal.loop-g-preserved
loop-g-preserved c =
    let i = c.loop-g.invariant in (
      c.pass-n.ensures c.if-n-eq-GIVEN_UP.false,
      c.pass-n.auto.head ∙ i.1,
      c.pass-n.auto.next ∙ i.2,
    )

pub returns : goal.returns
returns c =
    let a = c.args in
    let i = c.loop-g.invariant in
    let e : c.loop-g.g ≡ a.s * suc a.d = omega (arith, c.wings_words-keys.ensures) in record {
      right = (λ z. all_done a.d a.table.now (a.s * suc a.d)
          (subst (λ m. Paired a.d a.table.now m 0) e
          (subst (λ n. Paired a.d a.table.now c.loop-g.g n) (eqb-true _ _ z) i.0.paired)));
      long = (i.1, i.2);
    }
