-- The goals that the search leaves. Assumes nothing.
use mathlib.Core.Path.{◌≡◌, sym, ap, ◌∙◌}
use Prim.Native.Nat.{suc, ◌+◌}
use native.Mathlib.Numerals.{add-one}
use native.Mathlib.Omega.{arith}
use lib.ListN.{take, length, length-set}
use lib.Seq.{take_all}
use Rattle.records.specs.Inner.Inside.{vertex_in}
use Rattle.soundness.specs.Inner.Certified.{row_in}
use Rattle.soundness.specs.Inner.Hashing.{term, weight}
use Rattle.soundness.proofs.FaceRows.{size_in}
use Rattle.soundness.proofs.Weighing.{weight-take}
use Rattle.soundness.proofs.Filled.{filled_more}
use Rattle.soundness.proofs.hashing.terms.Goals as goal
use Rattle.soundness.proofs.hashing.terms.Goals.{At-loop-j}

size : (c : At-loop-j) → let a = c.args in length (row_in a.d a.table.now a.p) ≡ suc a.d
size c = let a = c.args in size_in a.d a.s a.p a.table.now c.requires

pub loop-j-preserved : goal.loop-j-preserved
loop-j-preserved c =
    let a = c.args in
    let i = c.loop-j.invariant in
    let w = row_in a.d a.table.now a.p in
    let e = c.term-t.ensures.0 ∙ ap term c.vertex.ensures in
    let n = size (goal.at.loop-j-preserved c).At-loop-j in
    let h = c.requires.dimension in (
      length-set c.loop-j.each _ _ ∙ i.0,
      filled_more (λ j. term (vertex_in a.d a.table.now a.p j)) c.loop-j.each c.loop-j.j _ (omega (arith, i.0)) i.1 e,
      ap (λ x. x + c.term-t.result) i.2 ∙ ap (λ x. weight (take c.loop-j.j w) + x) e ∙ sym (weight-take c.loop-j.j w (omega (arith, n)))
          ∙ ap (λ j. weight (take j w)) (sym (add-one c.loop-j.j)),
      omega (arith, i.3, c.term-t.ensures.1),
    )

pub returns : goal.returns
returns c =
    let a = c.args in
    let i = c.loop-j.invariant in
    let n = size (goal.at.returns c).At-loop-j in record {
      each = (i.0, λ j l. i.1 j (omega (arith, l)));
      sum = i.2 ∙ ap weight (take_all c.loop-j.j (row_in a.d a.table.now a.p) (omega (arith, n)));
    }
