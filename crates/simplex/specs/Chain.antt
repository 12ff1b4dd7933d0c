-- Lists of signed cells: how often a cell stands in one, and the list as a sum with whole coefficients (a chain). Paper, section 5.
-- Rows are compared place by place, so cells are put in ascending order before.
--   count_on s w cs      how many cells of the list have the sign s and the row w, whatever their materials
--   total w cs          how many have the row w
--   of_material m cs     the cells of one material, in their order
--   Same xs ys          equal, list order aside: every signed cell, with its material, stands in both equally often
--   coefficient w cs    plus cells on the row less minus cells on it, whatever their materials
use Rattle.std.specs.Prelude.{true, false, ◌&&◌, List, [], ◌∷◌, ◌≡◌, ℕ, ◌+◌, eqb, ℤ, pos, ◌-ℤ◌}
use Rattle.simplex.specs.Cell.{Row, Sign, Cell, times, same_row, one}
use Rattle.simplex.specs.Faces.{keep}

abbrev pub count_on : Sign → Row → List Cell → ℕ
count_on s w [] = 0
count_on s w (c ∷ cs) = one (times c.sign s && same_row c.row w) + count_on s w cs

-- the sum of a number over the rows of a list
abbrev pub sum_rows : (Row → ℕ) → List Cell → ℕ
sum_rows g [] = 0
sum_rows g (c ∷ cs) = g c.row + sum_rows g cs

abbrev pub total : Row → List Cell → ℕ
total w cs = sum_rows (λ y. one (same_row y w)) cs

abbrev pub of_material : ℕ → List Cell → List Cell
of_material m cs = keep (λ c. eqb c.material m) cs

abbrev pub Same : List Cell → List Cell → Type 0
Same xs ys = (m : ℕ) (s : Sign) (w : Row) → count_on s w (of_material m xs) ≡ count_on s w (of_material m ys)

abbrev pub coefficient : Row → List Cell → ℤ
coefficient w cs = pos (count_on true w cs) -ℤ pos (count_on false w cs)
