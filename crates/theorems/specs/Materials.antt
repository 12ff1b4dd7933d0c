-- Materials: what the calls make of them. Paper, sections 2 to 5, 7 and 8.
--   Materials             the laws; MaterialExamples, small solids computed
--   composite             two triangles of two materials that share a side
--   faces_of l             what faces takes: the table of a list
--   point_file k made      the file of K1 in version k, its point with these bytes of a material
use Rattle.std.specs.Prelude.{◌≡◌, List, [], ◌∷◌, ◌++◌, map, ℕ, ◌≤◌, ◌<◌, length, take, drop, get_or}
use Rattle.words.specs.Text.{ascii}
use Rattle.simplex.specs.Cell.{Row, Cell, no_cell}
use Rattle.records.specs.Layout.{Entry, entries_of}
use Rattle.solids.specs.Accept.{Listed}
use Rattle.solids.specs.Table.{entry_at, table_of_list}
use Rattle.solids.specs.Wings.{neighbour}
use Rattle.prism.specs.Swept.{swept_table}
use Rattle.prism.specs.Wings.{cell_number}
use Rattle.sweep.specs.Sweep.{SweepInput}
use Rattle.boundary.specs.Boundary.{boundary_of}
use Rattle.boundary.specs.Faces.{FacesInput, boundary_cells}
use Rattle.page.specs.Key.{printed}
use Rattle.theorems.specs.MarkedKeys.{k1_file}
use Rattle.theorems.specs.Shorthand.{made, list_of, ample}

pub record Materials : Type 0 where
  -- a swept cell has the material of the cell that it comes from
  pub swept : (x : SweepInput) (i p k : ℕ) → i < x.h → p < x.s → k ≤ x.d →
      let es = entries_of x.d x.s x.table in
      (entry_at (swept_table x.d x.v x.s x.h es) (cell_number x.d x.s i p k)).cell.material ≡ (entry_at es p).cell.material
  -- a boundary face that of its cell: the boundary of a table is that of its cells one after the other,
  pub joined : (e : Entry) (es : List Entry) → boundary_of (e ∷ es) ≡ boundary_of (e ∷ []) ++ boundary_of es
  -- and each face of a cell has the cell's
  pub faced : (e : Entry) (f : ℕ) → f < length (boundary_of (e ∷ [])) → (get_or (boundary_of (e ∷ [])) f no_cell).material ≡ e.cell.material
  -- neighbours are told from the vertices alone
  pub wings : (xs ys : List Cell) → map (λ (c : Cell). c.row) xs ≡ map (λ (c : Cell). c.row) ys →
      (p : ℕ) (w : Row) → neighbour p w xs ≡ neighbour p w ys

abbrev pub composite : Listed
composite = list_of 2 4 (made 3 "+012" ∷ made 7 "-123" ∷ [])

abbrev pub faces_of : Listed → FacesInput
faces_of l = record { d = l.d; v = l.v; s = l.s; table = table_of_list l; room = ample }

abbrev pub point_file : ℕ → List ℕ → List ℕ
point_file k material = take 3 k1_file ++ (k ∷ 0 ∷ take 43 (drop 5 k1_file) ++ (43 ∷ material ++ (0 ∷ 0 ∷ [])))

pub record MaterialExamples : Type 0 where
  -- the side between the two materials is no boundary
  pub shared : boundary_cells (faces_of composite) ≡ made 3 "-02" ∷ made 3 "+01" ∷ made 7 "-23" ∷ made 7 "+13" ∷ []
  -- a key of version 2 has materials, one of version 1 has none
  pub with_materials_lem : printed (point_file 2 (7 ∷ 0 ∷ [])) ≡ ascii "key 1 1 2 2\nv 0 0.500\nv 1 1.500\n+ 1 7\n- 0 7\n"
  pub of_none : printed (point_file 2 (0 ∷ 0 ∷ [])) ≡ ascii "key 1 1 2 2\nv 0 0.500\nv 1 1.500\n+ 1 0\n- 0 0\n"
  pub without : printed (point_file 1 []) ≡ ascii "key 1 1 2 2\nv 0 0.500\nv 1 1.500\n+ 1\n- 0\n"
  -- material 1,000, and version 3
  pub too_high : printed (point_file 2 (232 ∷ 3 ∷ [])) ≡ ascii "refused 18\n"
  pub not_ours : printed (point_file 3 (7 ∷ 0 ∷ [])) ≡ ascii "refused 1\n"
