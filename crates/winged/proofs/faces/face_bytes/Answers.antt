-- The goals that the search leaves. Assumes nothing.
use mathlib.Core.Path.{◌≡◌}
use mathlib.Core.List.{List}
use Prim.Native.Nat.{ℕ, ◌+◌, ◌≤◌, ◌<◌}
use native.Mathlib.Omega.{arith}
use lib.ListN.{length, drop_of_length-le}
use borrow.Author.Rules.{Below-set}
use Rattle.words.proofs.Writing.{left_starts, left_ends}
use Rattle.records.specs.Layout.{face_size, face_words}
use Rattle.boundary.specs.Inner.Walk.{face_at}
use Rattle.boundary.proofs.FaceWords.{face-long}
use Rattle.direct.proofs.WordBytes.{bytes_fit, left_bytes}
use Rattle.winged.proofs.faces.face_bytes.Goals as goal
use Rattle.winged.proofs.faces.face_bytes.Goals.{After-to_le_bytes, Start}

abbrev words : Start → List ℕ
words c = face_words (face_at c.args.d c.args.table.now c.args.p c.args.a)

long : (c : Start) → length (words c) ≡ face_size c.args.d
long c = face-long c.args.d c.args.s c.args.table.now c.args.p c.requires.0 c.args.a c.requires.1

fits : (c : After-to_le_bytes) → c.loop-j.next + 2 ≤ length c.loop-j.out
fits c =
    bytes_fit (words (goal.at.After-to_le_bytes c).Start) c.loop-j.j (omega (arith, long (goal.at.After-to_le_bytes c).Start)) c.loop-j.invariant

pub loop-j-init : goal.loop-j-init
loop-j-init c = left_starts _ _ _ c.requires.2

pub bounds-out-next : goal.bounds-out-next
bounds-out-next c = omega (arith, fits c)

pub overflow_add-out : goal.overflow_add-out
overflow_add-out c = omega (arith, fits c)

pub bounds-out-next-in-loop-j : goal.bounds-out-next-in-loop-j
bounds-out-next-in-loop-j c = Below-set ℕ c.loop-j.out _ _ _ (omega (arith, fits c))

pub overflow_add-next : goal.overflow_add-next
overflow_add-next c = omega (arith, fits c)

pub loop-j-preserved : goal.loop-j-preserved
loop-j-preserved c =
    let s = (goal.at.loop-j-preserved c).Start in
    let here : c.loop-j.j < length (words s) = omega (arith, long s) in
    rw c.to_le_bytes.ensures (left_bytes (words s) c.loop-j.j here c.loop-j.invariant _ c.face_word.ensures)

pub shape_of-out : goal.shape_of-out
shape_of-out c = c.loop-j.invariant.same

pub returns : goal.returns
returns c =
    let s = (goal.at.returns c).Start in
    left_ends (rw (drop_of_length-le (words s) {i = c.loop-j.j} (omega (arith, long s))) at c.loop-j.invariant)
