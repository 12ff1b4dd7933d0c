-- The bytes of the boundary faces, as the walk comes to them. Assumes nothing.
use lib.ListN.{length}
use Rattle.winged.specs.Inner.Sent.{face_bytes}
use Rattle.boundary.specs.Inner.Walk.{faces_from}
use Rattle.boundary.proofs.Walking.{Walked}
use Rattle.winged.proofs.faces.write_all.Given as goal

abbrev pub invariant-loop-at : goal.invariant-loop-at
invariant-loop-at l = Walked face_bytes l.d l.s l.table 0 l.initial.out l.at.cell l.at.position l.next l.out

abbrev pub decreases-loop-at : goal.decreases-loop-at
decreases-loop-at l = length (faces_from l.d l.s l.table l.at.cell l.at.position)
