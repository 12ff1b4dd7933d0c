-- The goals that the search leaves. Assumes nothing.
use Prim.Native.Nat.{◌≤◌, ◌+◌, ◌*◌}
use native.Mathlib.Nat.{add-sub_cancel_left}
use native.Mathlib.Omega.{arith}
use Rattle.words.proofs.Records.{record_fits}
use Rattle.points.proofs.Writing.{moving_starts, moving_goes, moving_ends}
use Rattle.points.proofs.levels.move_level.Goals as goal
use Rattle.points.proofs.levels.move_level.Goals.{In-loop-k}

fits : (c : In-loop-k) → c.loop-k.k * c.args.n + c.args.n ≤ c.args.v * c.args.n
fits c = record_fits c.args.n c.args.v c.loop-k.k c.loop-k-test.true

pub loop-k-init : goal.loop-k-init
loop-k-init c = let a = c.args in moving_starts a.step a.n a.v a.at a.out.now c.requires.n_in_bounds

pub overflow_mul-a : goal.overflow_mul-a
overflow_mul-a c = omega (arith, fits c)

pub overflow_add-a : goal.overflow_add-a
overflow_add-a c = omega (arith, fits c)

pub overflow_add-a-in-loop-k : goal.overflow_add-a-in-loop-k
overflow_add-a-in-loop-k c = omega (arith, fits c)

pub offset_bounds-out-a : goal.offset_bounds-out-a
offset_bounds-out-a c = omega (arith, fits c)

pub slice_bounds-move_point-end : goal.slice_bounds-move_point-end
slice_bounds-move_point-end c = omega (arith, fits c)

pub loop-k-preserved : goal.loop-k-preserved
loop-k-preserved c =
    let a = c.args in
    let l = c.loop-k in
    let moves = moving_goes a.step a.n a.v a.at a.out.now c.requires.n_in_bounds l.k l.out in
    moves c.move_point.new.p _ (add-sub_cancel_left (a.at + l.k * a.n) a.n) c.loop-k-test.true l.invariant c.move_point.ensures

pub returns : goal.returns
returns c =
    let a = c.args in
    moving_ends a.step a.n a.v a.at a.out.now c.requires.n_in_bounds c.loop-k.k _ (omega arith) c.loop-k.invariant
