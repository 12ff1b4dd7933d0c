-- The vertices of a face, one after the other. Assumes nothing.
use lib.ListN.{drop}
use Rattle.words.proofs.Writing.{Left}
use Rattle.boundary.specs.Inner.Walk.{face_at}
use Rattle.listing.proofs.faces.fill_row.Given as goal

abbrev pub invariant-loop-k : goal.invariant-loop-k
invariant-loop-k l = Left 0 (face_at l.d l.table l.p l.a).row l.initial.row l.k (drop l.k (face_at l.d l.table l.p l.a).row) l.row
