-- The goals that the search leaves. Assumes nothing.
use mathlib.Core.Path.{◌≡◌, ◌∙◌, subst}
use Prim.Native.Nat.{suc, ◌+◌, ◌*◌, ◌<◌}
use native.Mathlib.Nat.{suc-mul}
use native.Mathlib.Numerals.{add-one}
use native.Mathlib.Omega.{arith}
use Rattle.soundness.specs.Inner.Coding.{CodedTo}
use Rattle.soundness.proofs.KnownKeys.{coded_at}
use Rattle.soundness.proofs.codes.put_all.Goals as goal

pub put_cell-requires : goal.put_cell-requires
put_cell-requires c =
    let i = c.loop-p.invariant in
    let k = c.requires.0 in
    let l : c.loop-p.p < c.args.s = omega arith in
    (record { dimension = k.dimension; long = k.long; number = l }, k.cells, c.requires.1 c.loop-p.p l, c.requires.2, c.requires.3, i.0, i.1)

pub loop-p-preserved : goal.loop-p-preserved
loop-p-preserved c =
    let i = c.loop-p.invariant in
    let e : c.loop-p.p * suc c.args.d + (c.args.d + 1) ≡ (c.loop-p.p + 1) * suc c.args.d =
    omega (arith, suc-mul c.loop-p.p (suc c.args.d), add-one c.loop-p.p) in (
      c.put_cell.ensures.room,
      coded_at _ _ e c.put_cell.ensures.told,
      c.put_cell.auto.hash ∙ i.2,
      c.put_cell.auto.code ∙ i.3,
      c.put_cell.auto.known ∙ i.4,
    )

pub returns : goal.returns
returns c =
    let a = c.args in
    let i = c.loop-p.invariant in
    let e : c.loop-p.p ≡ a.s = omega arith in
    record {
      base = a.b;
      under = c.requires.1;
      told = subst (λ x. CodedTo a.d a.b a.table.now c.loop-p.hash c.loop-p.code c.loop-p.known
          (x * suc a.d)) e i.1;
      room = i.0;
    }
