-- The goals that the search leaves. Assumes nothing.
use mathlib.Core.Path.{◌≡◌, ap}
use Prim.Native.Nat.{◌+◌, ◌*◌, ◌<◌}
use native.Mathlib.Omega.{arith}
use lib.Ieee.{nan, eq}
use lib.ListN.{get_or}
use Rattle.words.specs.Records.{all_of}
use Rattle.words.proofs.Loops.{all_goes, all_stops, all_ends}
use Rattle.words.proofs.Records.{record_fits, tabulate-length}
use Rattle.points.specs.Inner.Sums.{column}
use Rattle.points.proofs.Adding.{column_at, column-first}
use Rattle.points.proofs.carrying.flat.Goals as goal
use Rattle.points.proofs.carrying.flat.Goals.{In-loop-k}

-- where the value of point k stands
fits : (c : In-loop-k) → let a = c.args in c.loop-k.k * a.n + a.a < a.v * a.n
fits c = omega (arith, record_fits c.args.n c.args.v c.loop-k.k c.loop-k-test.true, c.requires.1)

-- what stands there
value : (c : In-loop-k) → let a = c.args in let k = c.loop-k.k in
    get_or (column a.n a.v a.a a.points.now) k nan ≡ get_or a.points.now (k * a.n + a.a) nan
value c = column_at _ _ _ _ c.args.points.now c.requires.1 c.loop-k-test.true

pub offset_bounds-points-a : goal.offset_bounds-points-a
offset_bounds-points-a c = omega arith

pub bounds-points-a : goal.bounds-points-a
bounds-points-a c = omega (arith, record_fits c.args.n c.args.v 0 c.requires.2)

pub loop-k-init : goal.loop-k-init
loop-k-init c =
    let a = c.args in
    let values = column a.n a.v a.a a.points.now in
    ap (λ x. all_of (eq x) values) (column-first a.n a.v a.a a.points.now c.requires.1 c.requires.2)

pub overflow_mul-k : goal.overflow_mul-k
overflow_mul-k c = omega (arith, fits c)

pub offset_bounds-points-k : goal.offset_bounds-points-k
offset_bounds-points-k c = omega (arith, fits c)

pub bounds-points-k : goal.bounds-points-k
bounds-points-k c = omega (arith, fits (goal.at.bounds-points-k c).In-loop-k)

pub returns-then-not-x-points : goal.returns-then-not-x-points
returns-then-not-x-points c =
    let a = c.args in
    all_stops (eq _) nan (column a.n a.v a.a a.points.now) a.v c.loop-k.k (tabulate-length _ _) c.loop-k-test.true
    _ (value (goal.at.returns-then-not-x-points c).In-loop-k) _ c.if-not-x-points.true c.loop-k.invariant

pub loop-k-preserved : goal.loop-k-preserved
loop-k-preserved c =
    let a = c.args in
    all_goes (eq _) nan (column a.n a.v a.a a.points.now) a.v c.loop-k.k (tabulate-length _ _) c.loop-k-test.true
    _ (value (goal.at.loop-k-preserved c).In-loop-k) _ c.if-not-x-points.false c.loop-k.invariant

pub returns : goal.returns
returns c =
    let a = c.args in
    all_ends (eq _) nan (column a.n a.v a.a a.points.now) a.v c.loop-k.k (tabulate-length _ _) (omega arith) _ c.loop-k.invariant
