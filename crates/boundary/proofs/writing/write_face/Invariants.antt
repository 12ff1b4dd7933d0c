-- The words of a face's record, one after the other. Assumes nothing.
use mathlib.Core.Path.{◌≡◌}
use Prim.Native.Nat.{◌+◌}
use lib.ListN.{drop}
use Rattle.words.proofs.Writing.{Left}
use Rattle.records.specs.Layout.{face_size, face_words}
use Rattle.boundary.specs.Inner.Walk.{face_at}
use Rattle.boundary.proofs.writing.write_face.Given as goal

abbrev pub invariant-loop-j : goal.invariant-loop-j
invariant-loop-j l =
    (l.size ≡ face_size l.d)
    × Left l.at (face_words (face_at l.d l.table l.p l.a)) l.initial.out (l.at + l.j) (drop l.j (face_words (face_at l.d l.table l.p l.a))) l.out
