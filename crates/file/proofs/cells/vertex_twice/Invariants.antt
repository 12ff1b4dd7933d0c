-- `vertex_twice` answers row 8: what is left of the cells decides. Assumes nothing.
use mathlib.Core.Path.{◌≡◌}
use lib.ListN.{drop}
use Rattle.solids.specs.Accept.{vertex_twice}
use Rattle.file.specs.File.{file_cells}
use Rattle.file.proofs.cells.vertex_twice.Given as goal

abbrev pub invariant-loop-p : goal.invariant-loop-p
invariant-loop-p l = vertex_twice (file_cells l.b) ≡ vertex_twice (drop l.p (file_cells l.b))
