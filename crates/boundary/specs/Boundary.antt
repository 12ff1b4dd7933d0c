-- Boundary faces. Paper, section 5.
--   at_empty fs ws         those faces of a cell at which its wing is empty
--   boundary_of es         the boundary of a table: the faces at empty wings, by cell and then position
--   own_boundary cs        a solid's own boundary, told from its cells: the faces that belong to one cell only
-- In dimension 0 both are empty.
use Rattle.std.specs.Prelude.{cond, List, [], ◌∷◌, ◌++◌, ℕ, eqb}
use Rattle.simplex.specs.Cell.{Cell, filled}
use Rattle.simplex.specs.Faces.{faces, keep, facets}
use Rattle.simplex.specs.Chain.{total}
use Rattle.records.specs.Layout.{empty, Entry}

abbrev pub at_empty : List Cell → List ℕ → List Cell
at_empty [] ws = []
at_empty (f ∷ fs) [] = []
at_empty (f ∷ fs) (w ∷ ws) = let r = at_empty fs ws in cond (eqb w empty) (f ∷ r) r

abbrev pub boundary_of : List Entry → List Cell
boundary_of [] = []
boundary_of (e ∷ es) = keep (λ f. filled f.row) (at_empty (faces e.cell.sign e.cell.material e.cell.row) e.wings) ++ boundary_of es

abbrev pub own_boundary : List Cell → List Cell
own_boundary cs = let fs = facets cs in keep (λ f. eqb (total f.row fs) 1) fs
