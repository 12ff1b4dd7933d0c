-- The faces of a cell. Paper, section 2.
--   without i w       the row less the vertex at position i
--   face i c          face i of a cell; its sign is the cell's times (-1)^i, its material the cell's
--   faces s m w       the faces of the cell with sign s, material m and row w, by position
--   all_faces cs       the faces of all cells of a list, by cell and then position
--   facets cs         those that have a vertex: none in dimension 0
use Rattle.std.specs.Prelude.{Bool, not, cond, List, [], ◌∷◌, ◌++◌, map, ℕ, zero, suc}
use Rattle.simplex.specs.Cell.{Row, Sign, Cell, cell, times, alternating, filled}

abbrev pub without : ℕ → Row → Row
without i [] = []
without zero (x ∷ w) = w
without (suc i) (x ∷ w) = x ∷ without i w

abbrev pub face : ℕ → Cell → Cell
face i c = cell (times (alternating i) c.sign) c.material (without i c.row)

-- the vertex x put in front of a cell's row
abbrev pub prefixed : ℕ → Cell → Cell
prefixed x c = cell c.sign c.material (x ∷ c.row)

abbrev pub faces : Sign → ℕ → Row → List Cell
faces s m [] = []
faces s m (x ∷ w) = cell s m w ∷ map (prefixed x) (faces (not s) m w)

abbrev pub all_faces : List Cell → List Cell
all_faces [] = []
all_faces (c ∷ cs) = faces c.sign c.material c.row ++ all_faces cs

-- the cells of a list that pass a test, in their order
abbrev pub keep : (Cell → Bool) → List Cell → List Cell
keep q [] = []
keep q (c ∷ cs) = let r = keep q cs in cond (q c) (c ∷ r) r

abbrev pub facets : List Cell → List Cell
facets cs = keep (λ c. filled c.row) (all_faces cs)
