-- The goals that the search leaves. Assumes nothing.
use mathlib.Core.Path.{◌≡◌, refl, ◌∙◌, subst}
use mathlib.Core.Bool.{false≢true}
use Prim.Native.Nat.{suc}
use native.Mathlib.Nat.{suc-mul, zero-mul}
use native.Mathlib.Numerals.{add-one}
use native.Mathlib.Omega.{arith}
use Rattle.soundness.proofs.Places.{cell_below}
use Rattle.linking.specs.Inner.Linking.{Linking}
use Rattle.linking.proofs.WingSet.{cells-still}
use Rattle.linking.proofs.pairing.link_all.Goals as goal
use Rattle.linking.proofs.pairing.link_all.Goals.{else-a-d, then-a-d}

pub loop-g-init : goal.loop-g-init
loop-g-init c = (
  c.requires.0,
  record { long = refl; sign = λ q h. refl; cell = λ q h. refl },
  omega (arith, zero-mul (suc c.args.d)),
  omega arith,
)

pub link-requires : goal.link-requires
link-requires c =
    let a = c.args in
    let i = c.loop-g.invariant in
    (i.0, cell_below a.d a.s c.loop-g.p c.loop-g.a (omega (arith, i.2, c.requires.1)), i.3, i.2)

pub returns-then-not-link : goal.returns-then-not-link
returns-then-not-link c = record {
  linked = (λ z. absurd (false≢true z));
  long = (c.link.auto.head ∙ c.loop-g.auto.head, c.link.auto.next ∙ c.loop-g.auto.next);
}

pub loop-g-preserved : goal.loop-g-preserved
loop-g-preserved c =
    let l = c.loop-g in
    let i = l.invariant in
    let now = c.link.ensures c.if-not-link.false in (
      now.1,
      cells-still c.args.d c.args.s _ _ _ i.1 now.0,
      elim c.if-a-d.branch [
        | then-a-d w ↦ rw (w.p-is, w.a-is) (omega (arith, i.2))
        | else-a-d w ↦ rw (w.p-is, w.a-is) (omega (arith, i.2, i.3, w.if-a-d.false, suc-mul l.p (suc c.args.d), add-one l.p))
      ],
      elim c.if-a-d.branch [ then-a-d w ↦ omega (arith, w.if-a-d.true, w.a-is) | else-a-d w ↦ omega (arith, w.a-is) ],
    )

pub returns : goal.returns
returns c =
    let a = c.args in
    let i = c.loop-g.invariant in
    let e : c.loop-g.g ≡ a.n = omega arith in
    record {
      linked = (λ z. (i.1, subst (λ m. Linking a.d a.n c.loop-g.table m) e (rw c.requires.1 i.0.linking)));
      long = (c.loop-g.auto.head, c.loop-g.auto.next);
    }
