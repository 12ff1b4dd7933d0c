-- The goals that the search leaves. Assumes nothing.
use mathlib.Core.Path.{ap}
use native.Mathlib.Omega.{arith}
use lib.ListN.{length}
use Rattle.boundary.proofs.Walking.{from_next, from_here, from_skip}
use Rattle.boundary.proofs.counting.count_cell.Goals as goal
use Rattle.boundary.proofs.counting.count_cell.Goals.{then-on_boundary, else-on_boundary}

pub loop-a-preserved : goal.loop-a-preserved
loop-a-preserved c =
    let a = c.args in
    elim c.if-on_boundary.branch [
      | then-on_boundary w ↦
          omega (arith, ap length (from_here a.d a.s a.table.now c.requires.long a.p c.loop-a.a c.requires.number (omega arith) (cc)))
      | else-on_boundary w ↦
          omega (arith, ap length (from_skip a.d a.s a.table.now c.requires.long a.p c.loop-a.a c.requires.number (omega arith) (cc)))
    ]

pub returns : goal.returns
returns c =
    let a = c.args in
    omega (arith, ap length (from_next a.d a.s a.table.now c.requires.long a.p c.loop-a.a c.requires.number (omega arith)))
