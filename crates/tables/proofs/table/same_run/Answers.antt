-- The goals that the search leaves. Assumes nothing.
use mathlib.Core.Path.{sym}
use native.Mathlib.Omega.{arith}
use borrow.Author.Count.{below_none, below_more}
use Rattle.tables.proofs.Filling.{run_other, run-same}
use Rattle.tables.proofs.table.same_run.Goals as goal

pub loop-j-init : goal.loop-j-init
loop-j-init c = below_none _

pub returns-then-table-to : goal.returns-then-table-to
returns-then-table-to c =
    let a = c.args in
    sym (run_other _ a.from a.to a.words.now a.table.now _ c.loop-j-test.true c.if-table-to.true)

pub loop-j-preserved : goal.loop-j-preserved
loop-j-preserved c = below_more _ _ c.loop-j.invariant c.if-table-to.false

pub returns : goal.returns
returns c =
    let l = c.loop-j in
    let a = c.args in
    sym (run-same a.n _ _ a.words.now a.table.now (λ j h. l.invariant j (omega arith)))
