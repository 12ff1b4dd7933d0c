-- The goals that the search leaves. Assumes nothing.
use mathlib.Core.Path.{refl, sym, ◌∙◌, ◌≡◌}
use mathlib.Core.Bool.{◌&&◌}
use mathlib.Core.List.{List, ◌++◌}
use Prim.Native.Nat.{◌≤◌, ◌-◌, ◌+◌}
use native.Mathlib.Omega.{arith}
use lib.Ieee.{Float}
use lib.ListN.{take, drop, length}
use lib.Seq.{length_front, take_at, length-take-le}
use Rattle.words.specs.Records.{all_of}
use Rattle.points.specs.Inner.Stay.{stays_in}
use Rattle.points.specs.Step.{in_range, moved_point}
use Rattle.points.proofs.Staying.{stays_one}
use Rattle.points.proofs.levels.stays.Goals as goal
use Rattle.points.proofs.levels.stays.Goals.{After-move_point}

-- the row after a step
abbrev moved : After-move_point → List Float
moved c = c.move_point.new.p ++ drop c.args.n c.loop.q

-- it is as long as it was, and its first n floats are the moved point
row : (c : After-move_point) → let a = c.args in
    (length (moved c) ≡ 8) × (take a.n (moved c) ≡ moved_point a.step a.n (take a.n c.loop.q))
row c =
    let n = c.args.n in
    let q = c.loop.q in
    let last = c.move_point.new.p in
    let kept : length last ≡ length (take n q) = c.move_point.auto.p in
    let room : n ≤ length q = omega arith in
    (length_front q last n kept ∙ c.loop.invariant.0, take_at last (drop n q) n (kept ∙ length-take-le n q room) ∙ c.move_point.ensures)

-- one step: the test of the moved point, and what is left to ask of it
one : (c : After-move_point) → let a = c.args in let p = take a.n (moved c) in
    stays_in a.step a.n a.h (take a.n a.p) ≡ (all_of in_range p && stays_in a.step a.n (a.h - (c.loop.counter + 1)) p)
one c =
    let a = c.args in
    c.loop.invariant.1 ∙ stays_one a.step a.n (a.h - c.loop.counter) (a.h - (c.loop.counter + 1)) (take a.n c.loop.q) (omega arith)
    ∙ rw (row c).1 refl

pub slice_bounds-move_point-end : goal.slice_bounds-move_point-end
slice_bounds-move_point-end c = sym (length-take-le _ c.loop.q (omega arith))

pub move_point-requires : goal.move_point-requires
move_point-requires c = (length-take-le _ c.loop.q (omega arith), c.requires.1)

pub slice_bounds-q-end-in-loop : goal.slice_bounds-q-end-in-loop
slice_bounds-q-end-in-loop c = omega (arith, row (goal.at.slice_bounds-q-end-in-loop c).After-move_point)

pub slice_bounds-all_in_range-end : goal.slice_bounds-all_in_range-end
slice_bounds-all_in_range-end c =
    sym (length-take-le _ (moved (goal.at.slice_bounds-all_in_range-end c).After-move_point)
    (omega (arith, row (goal.at.slice_bounds-all_in_range-end c).After-move_point)))

pub returns-then-not-all_in_range : goal.returns-then-not-all_in_range
returns-then-not-all_in_range c =
    let out = sym c.all_in_range.ensures ∙ c.if-not-all_in_range.true in
    sym (one (goal.at.returns-then-not-all_in_range c).After-move_point ∙ rw out refl)

pub loop-preserved : goal.loop-preserved
loop-preserved c = (
  (row (goal.at.loop-preserved c).After-move_point).0,
  one (goal.at.loop-preserved c).After-move_point
      ∙ rw (sym c.all_in_range.ensures ∙ c.if-not-all_in_range.false) refl,
)

pub returns : goal.returns
returns c = let none : c.args.h - c.loop.counter ≡ 0 = omega arith in sym (c.loop.invariant.1 ∙ rw none)
