-- The goals that the search leaves. Assumes nothing.
use Prim.Native.Nat.{◌+◌, suc, ◌≤◌, ◌*◌}
use native.Mathlib.Omega.{arith}
use Rattle.points.proofs.Writing.{inside, climbing_starts, climbing_goes, climbing_ends}
use Rattle.points.proofs.levels.write_levels.Goals as goal
use Rattle.points.proofs.levels.write_levels.Goals.{In-loop-i}

-- the next level lies within the buffer
next : (c : In-loop-i) → let a = c.args in let i = c.loop-i.i in
    (i * (a.v * a.n) + a.v * a.n ≤ (i + 1) * (a.v * a.n)) × ((i + 1) * (a.v * a.n) + a.v * a.n ≤ suc a.h * a.v * a.n)
next c = let a = c.args in inside a.n a.v a.h c.loop-i.i c.loop-i-test.true

pub loop-i-init : goal.loop-i-init
loop-i-init c =
    let a = c.args in
    rw c.put.ensures (climbing_starts a.step a.n a.v a.h a.points.now a.out.now c.requires.points_len.0 c.requires.points_len.1)

pub overflow_mul-i : goal.overflow_mul-i
overflow_mul-i c = omega (arith, next c)

pub overflow_mul-i-in-loop-i : goal.overflow_mul-i-in-loop-i
overflow_mul-i-in-loop-i c = omega (arith, next c)

pub write_level-requires : goal.write_level-requires
write_level-requires c = record {
  step_value = c.requires.step_value;
  n_bound = ((next (goal.at.write_level-requires c).In-loop-i).0, omega (arith, next (goal.at.write_level-requires c).In-loop-i));
}

pub loop-i-preserved : goal.loop-i-preserved
loop-i-preserved c =
    let a = c.args in
    let climbs = climbing_goes a.step a.n a.v a.h a.points.now a.out.now c.requires.points_len.0 c.requires.points_len.1 c.loop-i.i in
    climbs _ c.loop-i.out _ c.loop-i-test.true c.loop-i.invariant c.write_level.ensures

pub returns : goal.returns
returns c =
    let a = c.args in
    let ends =
    climbing_ends a.step a.n a.v a.h a.points.now a.out.now c.requires.points_len.0 c.requires.points_len.1 c.loop-i.i _ (omega arith) in
    ends (rw c.put.ensures at c.loop-i.invariant)
