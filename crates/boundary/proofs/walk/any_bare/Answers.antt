-- The goals that the search leaves. Assumes nothing.
use native.Mathlib.Omega.{arith}
use Rattle.boundary.proofs.Walking.{between-goes, between_ends}
use Rattle.boundary.proofs.walk.any_bare.Goals as goal

pub loop-a-preserved : goal.loop-a-preserved
loop-a-preserved c =
    let a = c.args in
    let l = c.loop-a in
    rw c.on_boundary-bare.ensures
    (between-goes a.d a.s a.table.now c.requires.long a.p l.a c.requires.number (omega arith) l.bare l.invariant)

pub returns : goal.returns
returns c =
    let a = c.args in
    let l = c.loop-a in
    between_ends a.d a.s a.table.now c.requires.long a.p l.a c.requires.number (omega arith) l.bare l.invariant
