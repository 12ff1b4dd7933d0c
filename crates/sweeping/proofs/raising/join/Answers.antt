-- The goals that the search leaves. Assumes nothing.
use Rattle.std.proofs.Common.{◌≡◌, ◌+◌, ◌*◌, ◌<◌, length, ap, arith, length-set}
use Rattle.sweeping.specs.Inner.Raising.{prism_size}
use Rattle.sweeping.proofs.Joining.{joined-none, joined_more, bottom, top, bottom-inside, top-inside}
use Rattle.sweeping.proofs.raising.join.Goals as goal
use Rattle.sweeping.proofs.raising.join.Goals.{In-loop-p}

-- the two places, inside the buffer
record Places (c : In-loop-p) : Type 0 where
  pub first : c.loop-p.p * c.record_place-size.result ≡ c.loop-p.p * prism_size c.args.d
  pub low : c.args.at + c.loop-p.p * c.record_place-size.result + (c.first_wing.result + (c.args.d + 1))
      ≡ c.args.at + bottom c.args.d c.loop-p.p
  pub high : c.args.at + c.loop-p.p * c.record_place-size.result + (c.record_place.result + c.first_wing-2.result)
      ≡ c.args.at + top c.args.d c.loop-p.p
  pub same : length c.loop-p.out ≡ length c.args.out.now
  pub low-inside : c.args.at + bottom c.args.d c.loop-p.p < length c.args.out.now
  pub high-inside : c.args.at + top c.args.d c.loop-p.p < length c.args.out.now

places_of : (c : In-loop-p) → Places c
places_of c =
    let a = c.args in
    let p = c.loop-p.p in
    let first : p * c.record_place-size.result ≡ p * prism_size a.d = ap (λ n. p * n) (omega (arith, c.record_place-size.ensures.place)) in
    let room = c.requires.room in
    let few = c.loop-p-test.true in
    record {
      first = first;
      low = omega (arith, first, c.first_wing.ensures);
      high = omega (arith, first, c.first_wing-2.ensures, c.record_place.ensures.place);
      same = c.loop-p.invariant.kept.outside.same;
      low-inside =
          omega (arith, room, bottom-inside a.d a.v a.s a.h a.table.now c.requires.ready a.i a.at a.out.now room p few);
      high-inside =
          omega (arith, room, top-inside a.d a.v a.s a.h a.table.now c.requires.ready a.i a.at a.out.now room p few);
    }

pub loop-p-init : goal.loop-p-init
loop-p-init c =
    let a = c.args in
    joined-none a.d a.v a.s a.h a.table.now c.requires.ready a.i a.at a.out.now c.requires.room

pub wing_below-requires : goal.wing_below-requires
wing_below-requires c = (c.requires.ready.cells, c.requires.at, c.loop-p-test.true, omega arith)

pub bounds-out-first : goal.bounds-out-first
bounds-out-first c = let x = places_of (goal.at.bounds-out-first c).In-loop-p in omega (arith, x.low, x.low-inside, x.same)

pub wing_above-requires : goal.wing_above-requires
wing_above-requires c =
    (c.requires.ready.cells, c.requires.at, c.loop-p-test.true, omega arith)

pub bounds-out-first-in-loop-p : goal.bounds-out-first-in-loop-p
bounds-out-first-in-loop-p c =
    let x = places_of (goal.at.bounds-out-first-in-loop-p c).In-loop-p in
    let at = c.args.at + c.loop-p.p * c.record_place-size.result + (c.first_wing.result + (c.args.d + 1)) in
    omega (arith, x.high, x.high-inside, x.same, length-set c.loop-p.out at c.wing_below.result)

pub loop-p-preserved : goal.loop-p-preserved
loop-p-preserved c =
    let x = places_of (goal.at.loop-p-preserved c).In-loop-p in
    let a = c.args in
    let l = c.loop-p in
    joined_more a.d a.v a.s a.h a.table.now c.requires.ready a.i a.at a.out.now c.requires.room l.out l.p _ _
    c.loop-p-test.true l.invariant c.wing_below.ensures c.wing_above.ensures _ _ x.low x.high

pub returns : goal.returns
returns c =
    let j = c.loop-p.invariant in
    record {
      kept = j.kept;
      below = λ p l. j.below p (omega arith);
      above = λ p l. j.above p (omega arith);
    }
