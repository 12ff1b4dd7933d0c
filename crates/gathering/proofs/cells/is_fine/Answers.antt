-- The goals that the search leaves. Assumes nothing.
use native.Mathlib.Omega.{arith}
use Rattle.gathering.proofs.FineCells.{climbed_more, climbed_no_more, climbed_none, fine_row}
use Rattle.gathering.proofs.cells.is_fine.Goals as goal
use Rattle.gathering.proofs.cells.is_fine.Goals.{else-j-d, then-j-d}

pub loop-j-init : goal.loop-j-init
loop-j-init c = climbed_none _ _

pub loop-j-preserved : goal.loop-j-preserved
loop-j-preserved c =
    let l = c.loop-j in
    let a = c.args in
    elim c.if-j-d.branch [
      | then-j-d w ↦ climbed_more a.d l.j a.row _ _ _ _ l.invariant w.if-j-d.true w.up-is w.last-is
      | else-j-d w ↦ climbed_no_more a.d l.j a.row _ _ _ _ l.invariant w.if-j-d.false w.up-is w.last-is
    ]

pub returns : goal.returns
returns c = λ e.
    let a = c.args in
    let l = c.loop-j in
    fine_row a.d a.v a.material l.j a.row l.up l.last _ l.invariant (omega arith) c.from.ensures e
