-- What is counted and what is left make the whole. Assumes nothing.
use mathlib.Core.Path.{◌≡◌}
use Prim.Native.Nat.{◌+◌, ◌*◌, ◌≤◌}
use lib.ListN.{length}
use Rattle.boundary.specs.Inner.Walk.{table_faces, faces_from, AtFace}
use Rattle.listing.specs.Lines.{face_lines}
use Rattle.listing.proofs.faces.faces_size.Given as goal

abbrev pub invariant-loop-at : goal.invariant-loop-at
invariant-loop-at l = AtFace l.d l.s l.table l.at.cell l.at.position × (l.bytes ≤ 256 * l.count)
    × (l.count + length (faces_from l.d l.s l.table l.at.cell l.at.position) ≡ length (table_faces l.d l.s l.table))
    × (l.bytes + length (face_lines l.version (faces_from l.d l.s l.table l.at.cell l.at.position))
    ≡ length (face_lines l.version (table_faces l.d l.s l.table)))

abbrev pub decreases-loop-at : goal.decreases-loop-at
decreases-loop-at l = length (faces_from l.d l.s l.table l.at.cell l.at.position)
