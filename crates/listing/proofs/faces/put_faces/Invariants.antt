-- The lines of the boundary faces, as the walk comes to them. Assumes nothing.
use lib.ListN.{length}
use Rattle.listing.specs.Lines.{face_line}
use Rattle.boundary.specs.Inner.Walk.{faces_from}
use Rattle.boundary.proofs.Walking.{Walked}
use Rattle.listing.proofs.faces.put_faces.Given as goal

abbrev pub invariant-loop-place : goal.invariant-loop-place
invariant-loop-place l =
    Walked (face_line l.version) l.d l.s l.table l.at l.initial.buf l.place.cell l.place.position l.cur l.buf

abbrev pub decreases-loop-place : goal.decreases-loop-place
decreases-loop-place l = length (faces_from l.d l.s l.table l.place.cell l.place.position)
