-- The goals that the search leaves. Assumes nothing.
use mathlib.Core.Path.{◌≡◌}
use native.Mathlib.Omega.{arith}
use lib.ListN.{length}
use borrow.Author.Rules.{rules}
use Rattle.records.specs.Layout.{table_length}
use Rattle.boundary.proofs.Walking.{face_less, walk_starts, walk_fits, walk_goes, walk_ends}
use Rattle.boundary.proofs.writing.write_faces.Goals as goal
use Rattle.boundary.proofs.writing.write_faces.Goals.{Start}

long : (c : Start) → length c.args.table.now ≡ table_length c.args.d c.args.s
long c = c.requires.0.long

pub loop-at-init : goal.loop-at-init
loop-at-init c = walk_starts c.next_face-at.ensures (omega arith)

pub write_face-next-requires : goal.write_face-next-requires
write_face-next-requires c =
    let l = c.loop-at.invariant in
    (search rules, l.place.position c.loop-at-test.true, walk_fits l (long (goal.at.write_face-next-requires c).Start) c.loop-at-test.true)

pub overflow_add-at : goal.overflow_add-at
overflow_add-at c = omega (arith, c.loop-at.invariant.place.position c.loop-at-test.true)

pub loop-at-smaller : goal.loop-at-smaller
loop-at-smaller c =
    omega (arith, face_less (long (goal.at.loop-at-smaller c).Start) c.loop-at.invariant.place c.loop-at-test.true c.next_face-at-in-loop-at.ensures)

pub loop-at-preserved : goal.loop-at-preserved
loop-at-preserved c =
    walk_goes c.loop-at.invariant (long (goal.at.loop-at-preserved c).Start) c.loop-at-test.true c.next_face-at-in-loop-at.ensures
    c.write_face-next.ensures

pub shape_of-out : goal.shape_of-out
shape_of-out c = c.loop-at.invariant.left.same

pub returns : goal.returns
returns c = walk_ends c.loop-at.invariant (omega arith)
