-- The goals that the search leaves. Assumes nothing.
use mathlib.Core.Path.{◌≡◌, ap, ◌∙◌}
use native.Mathlib.Omega.{arith}
use Rattle.boundary.specs.Inner.Walk.{faces_from}
use Rattle.boundary.proofs.walk.cell_from.Goals as goal

pub returns : goal.returns
returns c =
    let a = c.args in
    let e : c.loop-cell.cell ≡ a.s = omega arith in
    record {
      cell = omega arith;
      same = c.loop-cell.invariant ∙ ap (λ q. faces_from a.d a.s a.table.now q 0) e;
      found = λ h. absurd (omega arith);
    }
