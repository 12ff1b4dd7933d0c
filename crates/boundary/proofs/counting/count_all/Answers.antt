-- The goals that the search leaves. Assumes nothing.
use mathlib.Core.Path.{ap}
use Prim.Native.Nat.{◌≤◌}
use native.Mathlib.Omega.{arith}
use lib.ListN.{length}
use Rattle.boundary.specs.Inner.Walk.{table_faces}
use Rattle.boundary.proofs.Sizes.{faces-few}
use Rattle.boundary.proofs.Walking.{from_start, from_end}
use Rattle.boundary.proofs.counting.count_all.Goals as goal
use Rattle.boundary.proofs.counting.count_all.Goals.{Start}

few : (c : Start) → length (table_faces c.args.d c.args.s c.args.table.now) ≤ 32768
few c = faces-few c.args.d c.args.s c.args.table.now c.requires

pub loop-p-init : goal.loop-p-init
loop-p-init c = let a = c.args in omega (arith, ap length (from_start a.d a.s a.table.now))

pub overflow_add-n : goal.overflow_add-n
overflow_add-n c = omega (arith, few (goal.at.overflow_add-n c).Start)

pub returns : goal.returns
returns c =
    let none = ap length (from_end c.args.d c.args.s c.args.table.now c.loop-p.p 0 (omega arith)) in
    record {
      count = omega arith;
      few = omega (arith, few (goal.at.returns c).Start);
    }
