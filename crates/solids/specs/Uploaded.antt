-- Wings in uploaded order: in the order in which the vertices of each cell stood in the list. Paper, section 3.
--   uploaded_wings cs p c      of cell p, uploaded as c: wing j is its neighbour at the face that lacks the vertex at place j of the upload
--   uploaded_of_list l          those of all cells of a list, as words
-- cs are all cells in ascending order, since faces are compared in it.
use Rattle.std.specs.Prelude.{List, map, ℕ}
use Rattle.words.specs.Records.{tabulate, concat}
use Rattle.simplex.specs.Cell.{Cell}
use Rattle.simplex.specs.Order.{sorted}
use Rattle.simplex.specs.Faces.{faces}
use Rattle.records.specs.Layout.{cell_in}
use Rattle.solids.specs.Accept.{Listed, solid_of}
use Rattle.solids.specs.Wings.{neighbour}

abbrev pub uploaded_wings : List Cell → ℕ → Cell → List ℕ
uploaded_wings cs p c = map (λ f. neighbour p (sorted f.row) cs) (faces c.sign c.material c.row)

unfoldable pub uploaded_of_list : Listed → List ℕ
uploaded_of_list l = concat (tabulate l.s (λ p. uploaded_wings (solid_of l) p (cell_in l.d l.words p)))
