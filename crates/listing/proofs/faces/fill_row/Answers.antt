-- The goals that the search leaves. Assumes nothing.
use mathlib.Core.Path.{◌≡◌, ap, ◌∙◌}
use mathlib.Core.List.{List}
use Prim.Native.Nat.{ℕ}
use native.Mathlib.Omega.{arith}
use lib.ListN.{length, take, drop_of_length-le}
use lib.Seq.{take_at}
use Rattle.words.proofs.Placed.{placed_first}
use Rattle.words.proofs.Writing.{left_starts, left_next, left_ends}
use Rattle.boundary.specs.Inner.Walk.{face_at}
use Rattle.boundary.proofs.FaceWords.{face-row}
use Rattle.listing.proofs.faces.fill_row.Goals as goal
use Rattle.listing.proofs.faces.fill_row.Goals.{Start}

abbrev vertices : Start → List ℕ
vertices c = (face_at c.args.d c.args.table.now c.args.p c.args.a).row

long : (c : Start) → length (vertices c) ≡ c.args.d
long c = face-row c.args.d c.args.s c.args.table.now c.args.p c.requires.0 c.args.a c.requires.1

pub loop-k-init : goal.loop-k-init
loop-k-init c =
    left_starts 0 (vertices (goal.at.loop-k-init c).Start) c.args.row.now (omega (arith, long (goal.at.loop-k-init c).Start))

pub bounds-row-k : goal.bounds-row-k
bounds-row-k c = omega (arith, c.loop-k.invariant.same)

pub loop-k-preserved : goal.loop-k-preserved
loop-k-preserved c =
    left_next 0 (vertices (goal.at.loop-k-preserved c).Start) c.loop-k.k (omega (arith, long (goal.at.loop-k-preserved c).Start))
    c.loop-k.invariant _ _ c.face_vertex.ensures (omega arith)

pub shape_of-row : goal.shape_of-row
shape_of-row c = c.loop-k.invariant.same

pub returns : goal.returns
returns c =
    let put = left_ends (rw (drop_of_length-le (vertices (goal.at.returns c).Start) {i = c.loop-k.k} (omega (arith, long (goal.at.returns c).Start)))
    at c.loop-k.invariant) in
    ap (take c.args.d) (put.content ∙ placed_first (vertices (goal.at.returns c).Start) c.args.row.now)
    ∙ take_at (vertices (goal.at.returns c).Start) _ c.args.d (long (goal.at.returns c).Start)
