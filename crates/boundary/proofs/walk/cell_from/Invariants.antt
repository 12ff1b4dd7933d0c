-- Cells with no face on the boundary are passed. Assumes nothing.
use mathlib.Core.Path.{◌≡◌}
use Rattle.boundary.specs.Inner.Walk.{faces_from}
use Rattle.boundary.proofs.walk.cell_from.Given as goal

abbrev pub invariant-loop-cell : goal.invariant-loop-cell
invariant-loop-cell l = faces_from l.d l.s l.table l.p 0 ≡ faces_from l.d l.s l.table l.cell 0
