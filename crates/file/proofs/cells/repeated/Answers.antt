-- The goals that the search leaves. Assumes nothing.
use native.Mathlib.Omega.{arith}
use Rattle.file.proofs.Rows.{again_goes, again_stops, again_ends}
use Rattle.file.proofs.cells.repeated.Goals as goal

pub returns-then-holds : goal.returns-then-holds
returns-then-holds c =
    let a = c.args in
    again_stops a.b.now a.at a.m c.loop-k.k _ c.loop-k.invariant c.loop-k-test.true _ c.word16-x.ensures (cc)

pub loop-k-preserved : goal.loop-k-preserved
loop-k-preserved c =
    let a = c.args in
    again_goes a.b.now a.at a.m c.loop-k.k _ c.loop-k.invariant c.loop-k-test.true _ c.word16-x.ensures (cc)

pub returns : goal.returns
returns c =
    let a = c.args in
    again_ends a.b.now a.at a.m c.loop-k.k _ c.loop-k.invariant (omega arith)
