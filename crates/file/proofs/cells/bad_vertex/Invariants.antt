-- `bad_vertex` answers row 7: what is left of the cells decides. Assumes nothing.
use mathlib.Core.Path.{◌≡◌}
use lib.ListN.{drop}
use Rattle.solids.specs.Accept.{vertex_beyond}
use Rattle.file.specs.File.{vertex_count_of, file_cells}
use Rattle.file.proofs.cells.bad_vertex.Given as goal

abbrev pub invariant-loop-p : goal.invariant-loop-p
invariant-loop-p l =
    vertex_beyond (vertex_count_of l.b) (file_cells l.b) ≡ vertex_beyond (vertex_count_of l.b) (drop l.p (file_cells l.b))
