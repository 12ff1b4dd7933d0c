-- The goals that the search leaves. Assumes nothing.
use mathlib.Core.Path.{◌≡◌}
use Prim.Native.Nat.{◌<◌}
use native.Mathlib.Omega.{arith}
use lib.ListN.{length}
use borrow.Author.Rules.{rules}
use Rattle.records.specs.Layout.{table_length}
use Rattle.boundary.proofs.Walking.{face_less, walk_starts, walk_fits, walk_goes, walk_ends}
use Rattle.winged.proofs.faces.write_all.Goals as goal
use Rattle.winged.proofs.faces.write_all.Goals.{In-loop-at, Start}

-- what a turn knows of the table and its cell
long : (s : Start) → length s.args.table.now ≡ table_length s.args.d s.args.s
long s = s.requires.0.long

inside : (c : In-loop-at) → c.loop-at.at.cell < c.args.s
inside c = c.loop-at-test.true

pub loop-at-init : goal.loop-at-init
loop-at-init c = walk_starts c.next_face-at.ensures (omega (arith, c.requires.1))

pub face_bytes-next-requires : goal.face_bytes-next-requires
face_bytes-next-requires c =
    let cell = inside (goal.at.face_bytes-next-requires c).In-loop-at in
    (search rules, c.loop-at.invariant.place.position cell, walk_fits c.loop-at.invariant (long (goal.at.face_bytes-next-requires c).Start) cell)

pub overflow_add-at : goal.overflow_add-at
overflow_add-at c =
    omega (arith, c.loop-at.invariant.place.position (inside (goal.at.overflow_add-at c).In-loop-at), c.requires.0.dimension)

pub loop-at-smaller : goal.loop-at-smaller
loop-at-smaller c =
    let cell = inside (goal.at.loop-at-smaller c).In-loop-at in
    omega (arith, face_less (long (goal.at.loop-at-smaller c).Start) c.loop-at.invariant.place cell c.next_face-at-in-loop-at.ensures)

pub loop-at-preserved : goal.loop-at-preserved
loop-at-preserved c =
    let cell = inside (goal.at.loop-at-preserved c).In-loop-at in
    walk_goes c.loop-at.invariant (long (goal.at.loop-at-preserved c).Start) cell c.next_face-at-in-loop-at.ensures c.face_bytes-next.ensures

pub shape_of-out : goal.shape_of-out
shape_of-out c = c.loop-at.invariant.left.same

pub returns : goal.returns
returns c = (walk_ends c.loop-at.invariant (omega arith)).content
