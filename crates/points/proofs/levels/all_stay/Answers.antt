-- The goals that the search leaves. Assumes nothing.
use mathlib.Core.Path.{ap, ◌∙◌, ◌≡◌}
use mathlib.Core.List.{List, []}
use Prim.Native.Nat.{◌+◌, ℕ, ◌≤◌, ◌*◌}
use native.Mathlib.Nat.{add-sub_cancel_left}
use native.Mathlib.Omega.{arith}
use lib.Ieee.{Float}
use Rattle.words.specs.Records.{tabulate, part}
use Rattle.words.proofs.Loops.{all_goes, all_stops, all_ends}
use Rattle.points.specs.Inner.Stay.{stays_in}
use Rattle.words.proofs.Records.{record_fits, tabulate-length, tabulate_at}
use Rattle.points.proofs.LevelLaws.{loaded}
use Rattle.points.proofs.levels.all_stay.Goals as goal
use Rattle.points.proofs.levels.all_stay.Goals.{After-stays, In-loop-k}

-- the points, one by one
abbrev each : ℕ → ℕ → List Float → List (List Float)
each n v points = tabulate v (λ k. part n k points)

fits : (c : In-loop-k) → c.loop-k.k * c.args.n + c.args.n ≤ c.args.v * c.args.n
fits c = record_fits c.args.n c.args.v c.loop-k.k c.loop-k-test.true

-- the answer for point k is that for the row that was loaded
answered : (c : After-stays) → let a = c.args in
    c.stays.result ≡ stays_in a.step a.n a.h (part a.n c.loop-k.k a.points.now)
answered c =
    let a = c.args in
    let k = c.loop-k.k in
    c.stays.ensures
    ∙ ap (stays_in a.step a.n a.h)
    (loaded a.n a.v k _ a.points.now c.load-p.result
    (add-sub_cancel_left (k * a.n) a.n) c.loop-k-test.true c.requires.points_len c.load-p.ensures)

pub overflow_mul-a : goal.overflow_mul-a
overflow_mul-a c = omega (arith, fits c)

pub overflow_add-a : goal.overflow_add-a
overflow_add-a c = omega (arith, fits c)

pub offset_bounds-points-a : goal.offset_bounds-points-a
offset_bounds-points-a c = omega (arith, fits c)

pub slice_bounds-load-end : goal.slice_bounds-load-end
slice_bounds-load-end c = omega (arith, fits c)

pub returns-then-not-stays : goal.returns-then-not-stays
returns-then-not-stays c =
    let a = c.args in
    let k = c.loop-k.k in
    all_stops (stays_in a.step a.n a.h) [] (each a.n a.v a.points.now) a.v k (tabulate-length _ _) c.loop-k-test.true
    _ (tabulate_at _ _ k [] c.loop-k-test.true) _ (cc (answered (goal.at.returns-then-not-stays c).After-stays, c.if-not-stays.true))
    c.loop-k.invariant

pub loop-k-preserved : goal.loop-k-preserved
loop-k-preserved c =
    let a = c.args in
    let k = c.loop-k.k in
    all_goes (stays_in a.step a.n a.h) [] (each a.n a.v a.points.now) a.v k (tabulate-length _ _) c.loop-k-test.true
    _ (tabulate_at _ _ k [] c.loop-k-test.true) _ (cc (answered (goal.at.loop-k-preserved c).After-stays, c.if-not-stays.false))
    c.loop-k.invariant

pub returns : goal.returns
returns c =
    let a = c.args in
    all_ends (stays_in a.step a.n a.h) [] (each a.n a.v a.points.now) a.v c.loop-k.k (tabulate-length _ _)
    (omega arith) _ c.loop-k.invariant
