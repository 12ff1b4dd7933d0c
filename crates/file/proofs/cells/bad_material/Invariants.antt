-- `bad_material` answers row 18: what is left of the cells decides. Assumes nothing.
use mathlib.Core.Path.{◌≡◌}
use lib.ListN.{drop}
use Rattle.solids.specs.Accept.{bad_material}
use Rattle.file.specs.File.{file_cells}
use Rattle.file.proofs.cells.bad_material.Given as goal

abbrev pub invariant-loop-p : goal.invariant-loop-p
invariant-loop-p l = bad_material (file_cells l.b) ≡ bad_material (drop l.p (file_cells l.b))
