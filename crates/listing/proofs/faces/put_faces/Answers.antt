-- The goals that the search leaves. Assumes nothing.
use mathlib.Core.Path.{◌≡◌}
use native.Mathlib.Omega.{arith}
use lib.ListN.{length}
use borrow.Author.Rules.{rules}
use Rattle.records.specs.Layout.{table_length}
use Rattle.boundary.proofs.Walking.{face_less, walk_starts, walk_fits, walk_goes, walk_ends}
use Rattle.listing.proofs.faces.put_faces.Goals as goal
use Rattle.listing.proofs.faces.put_faces.Goals.{Start}

long : (c : Start) → length c.args.table.now ≡ table_length c.args.d c.args.s
long c = c.requires.0.long

pub loop-place-init : goal.loop-place-init
loop-place-init c = walk_starts c.next_face-place.ensures (omega arith)

pub put_face-cur-requires : goal.put_face-cur-requires
put_face-cur-requires c =
    let l = c.loop-place.invariant in
    (search rules, l.place.position c.loop-place-test.true, walk_fits l (long (goal.at.put_face-cur-requires c).Start) c.loop-place-test.true)

pub overflow_add-place : goal.overflow_add-place
overflow_add-place c = omega (arith, c.loop-place.invariant.place.position c.loop-place-test.true)

pub loop-place-smaller : goal.loop-place-smaller
loop-place-smaller c =
    omega (
      arith,
      face_less (long (goal.at.loop-place-smaller c).Start) c.loop-place.invariant.place c.loop-place-test.true
          c.next_face-place-in-loop-place.ensures,
    )

pub loop-place-preserved : goal.loop-place-preserved
loop-place-preserved c =
    walk_goes c.loop-place.invariant (long (goal.at.loop-place-preserved c).Start) c.loop-place-test.true c.next_face-place-in-loop-place.ensures
    c.put_face-cur.ensures

pub shape_of-buf : goal.shape_of-buf
shape_of-buf c = c.loop-place.invariant.left.same

pub returns : goal.returns
returns c = walk_ends c.loop-place.invariant (omega arith)
