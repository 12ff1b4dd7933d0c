-- The bytes of a face's record, two to a word. Assumes nothing.
use lib.ListN.{drop}
use Rattle.words.specs.Bytes.{bytes_of}
use Rattle.words.proofs.Writing.{Left}
use Rattle.records.specs.Layout.{face_words}
use Rattle.boundary.specs.Inner.Walk.{face_at}
use Rattle.winged.specs.Inner.Sent.{face_bytes}
use Rattle.winged.proofs.faces.face_bytes.Given as goal

abbrev pub invariant-loop-j : goal.invariant-loop-j
invariant-loop-j l =
    Left l.at (face_bytes (face_at l.d l.table l.p l.a)) l.initial.out l.next (bytes_of (drop l.j (face_words (face_at l.d l.table l.p l.a)))) l.out
