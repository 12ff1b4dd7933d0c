-- The goals that the search leaves. Assumes nothing.
use mathlib.Core.Path.{ap}
use native.Mathlib.Numerals.{add-one}
use native.Mathlib.Omega.{arith}
use borrow.Author.Count.{below_more}
use Rattle.records.specs.Inner.Inside.{vertex_in}
use Rattle.soundness.proofs.rows.ascends.Goals as goal

pub loop-j-preserved : goal.loop-j-preserved
loop-j-preserved c =
    let a = c.args in
    below_more _ _ c.loop-j.invariant
    (omega (
      arith,
      c.if-vertex.false,
      c.vertex.ensures,
      c.vertex-in-loop-j.ensures,
      ap (λ i. vertex_in a.d a.table.now a.p i) (add-one c.loop-j.j),
    ))
