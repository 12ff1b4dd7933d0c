-- The goals that the search leaves. Assumes nothing.
use mathlib.Core.Path.{◌≡◌}
use mathlib.Core.List.{List}
use Prim.Native.Nat.{ℕ, ◌+◌, ◌<◌}
use native.Mathlib.Nat.{add-zero}
use native.Mathlib.Omega.{arith}
use lib.ListN.{length, length-drop}
use Rattle.words.proofs.Writing.{left_starts, left_next, left_none}
use Rattle.records.specs.Layout.{face_size, face_words}
use Rattle.boundary.specs.Inner.Walk.{face_at}
use Rattle.boundary.proofs.FaceWords.{face-long}
use Rattle.boundary.proofs.writing.write_face.Goals as goal
use Rattle.boundary.proofs.writing.write_face.Goals.{After-face_word, Start}

abbrev words : Start → List ℕ
words c = face_words (face_at c.args.d c.args.table.now c.args.p c.args.a)

long : (c : Start) → length (words c) ≡ face_size c.args.d
long c = face-long c.args.d c.args.s c.args.table.now c.args.p c.requires.0 c.args.a c.requires.1

fits : (c : After-face_word) → c.args.at + c.loop-j.j < length c.loop-j.out
fits c =
    omega (arith, c.loop-j.invariant.1.room, length-drop c.loop-j.j (words (goal.at.After-face_word c).Start), long (goal.at.After-face_word c).Start)

pub loop-j-init : goal.loop-j-init
loop-j-init c = (cc, rw (add-zero c.args.at) (left_starts _ _ _ (omega arith)))

pub bounds-out-at : goal.bounds-out-at
bounds-out-at c = fits c

pub loop-j-preserved : goal.loop-j-preserved
loop-j-preserved c =
    let here : c.loop-j.j < length (words (goal.at.loop-j-preserved c).Start) = omega (arith, long (goal.at.loop-j-preserved c).Start) in (
      cc,
      left_next 0 (words (goal.at.loop-j-preserved c).Start) c.loop-j.j here c.loop-j.invariant.1 _ _ c.face_word.ensures
          (omega arith),
    )

pub returns : goal.returns
returns c =
    let all = words (goal.at.returns c).Start in
    let e : c.loop-j.j ≡ c.face_size-size.result = omega arith in
    let done = left_none all c.loop-j.j (omega (arith, long (goal.at.returns c).Start)) c.loop-j.invariant.1 in
    rw e at done
