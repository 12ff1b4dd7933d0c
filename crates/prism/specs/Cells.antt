-- Swept cells. A solid on v vertices, swept in h steps, has the vertex x at level i as x + i v. Paper, section 4.
--   lifted v i w          a row of the solid at level i
--   prism_cell v i k c     cell k over the cell c at level i
--   prism v i c           the cells over c at level i
--   level v i cs          those over all cells of a list
--   sweep_of v h cs        the sweep of a plain list of cells, without wings: levels 0 to h - 1
--   top_copy v h cs        the cells at level h
-- The dimension d is that of the list's own cells, one less than their vertices.
use Rattle.std.specs.Prelude.{List, [], ◌∷◌, ◌++◌, map, ℕ, zero, suc, ◌+◌, ◌*◌, ◌-◌, length, take, drop}
use Rattle.words.specs.Records.{tabulate}
use Rattle.simplex.specs.Cell.{Row, Cell, cell, times, alternating}

abbrev pub at_level : ℕ → ℕ → ℕ → ℕ
at_level v i x = x + i * v

abbrev pub lifted : ℕ → ℕ → Row → Row
lifted v i w = map (at_level v i) w

abbrev pub dimension : Cell → ℕ
dimension c = length c.row - 1

-- sign s (-1)^(kd), the cell's material; vertices k to d at level i, then 0 to k at level i + 1
abbrev pub prism_cell : ℕ → ℕ → ℕ → Cell → Cell
prism_cell v i k c =
    cell (times (alternating (k * dimension c)) c.sign) c.material
    (lifted v i (drop k c.row) ++ lifted v (suc i) (take (suc k) c.row))

abbrev pub prism : ℕ → ℕ → Cell → List Cell
prism v i c = tabulate (length c.row) (λ k. prism_cell v i k c)

abbrev pub level : ℕ → ℕ → List Cell → List Cell
level v i [] = []
level v i (c ∷ cs) = prism v i c ++ level v i cs

abbrev pub sweep_of : ℕ → ℕ → List Cell → List Cell
sweep_of v zero cs = []
sweep_of v (suc h) cs = sweep_of v h cs ++ level v h cs

abbrev pub top_copy : ℕ → ℕ → List Cell → List Cell
top_copy v h = map (λ c. cell c.sign c.material (lifted v h c.row))
