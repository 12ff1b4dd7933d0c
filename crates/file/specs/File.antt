-- A file: 40 bytes of header, v n floats, then s cells: a sign byte, in version 2 a material, and d + 1 vertices. Numbers are
-- little-endian. Paper, section 7.
--   version_of b           1 or 2; files of version 1 have no materials
--   dimension_of, axes_of, vertex_count_of, cell_count_of, steps_of     the header's numbers d, n, v, s, h
--   kind_of, axis_of b k, amount_of b k                      the step's kind, its two axis bytes, its three floats
--   step_of b              the step
--   unused_set b           a part of the header that this kind of step leaves unused is not zero
--   file_length b          the length that the header's numbers say
--   file_points b          the points, vertex by vertex
--   sign_bytes b           the sign bytes of the cells
--   material_of b p        the material of cell p: 0 in version 1
--   file_cells b           the cells, in file order
use Rattle.std.specs.Prelude.{Bool, not, cond, ◌||◌, List, ℕ, suc, ◌+◌, ◌*◌, eqb, drop, get_or, Float}
use Rattle.words.specs.Records.{tabulate, part}
use Rattle.words.specs.Bytes.{word16, word64, float64, words16}
use Rattle.words.specs.Text.{ascii}
use Rattle.rules.specs.Limits.{with_materials}
use Rattle.simplex.specs.Cell.{Cell, cell}
use Rattle.points.specs.declared.step.Step.{Step}
use Rattle.points.specs.declared.step.Step.TheVariants as S

-- the letters WNG
abbrev pub mark : List ℕ
mark = ascii "WNG"

abbrev pub version_of : List ℕ → ℕ
version_of b = word16 b 3

abbrev pub header_size : ℕ
header_size = 40

abbrev pub dimension_of : List ℕ → ℕ
dimension_of b = get_or b 5 0

abbrev pub axes_of : List ℕ → ℕ
axes_of b = get_or b 6 0

abbrev pub vertex_count_of : List ℕ → ℕ
vertex_count_of b = word16 b 7

abbrev pub cell_count_of : List ℕ → ℕ
cell_count_of b = word16 b 9

abbrev pub steps_of : List ℕ → ℕ
steps_of b = word16 b 11

-- 1 slide, 2 slant, 3 turn
abbrev pub kind_of : List ℕ → ℕ
kind_of b = get_or b 13 0

abbrev pub axis_of : List ℕ → ℕ → ℕ
axis_of b k = get_or b (14 + k) 0

-- where float k of the header stands
abbrev pub amount_at : ℕ → ℕ
amount_at k = 16 + k * 8

abbrev pub amount_of : List ℕ → ℕ → Float
amount_of b k = float64 b (amount_at k)

abbrev pub step_of : List ℕ → Step
step_of b =
    cond (eqb (kind_of b) 1) (S.Slide (axis_of b 0) (amount_of b 0))
    (cond (eqb (kind_of b) 2) (S.Slant (axis_of b 0) (amount_of b 0) (axis_of b 1) (amount_of b 1))
    (S.Turn (record { c = amount_of b 0; s = amount_of b 1; rise = amount_of b 2 })))

-- whether axis byte k, or a bit of float k, is set
abbrev pub axis_set : List ℕ → ℕ → Bool
axis_set b k = not (eqb (axis_of b k) 0)

abbrev pub amount_set : List ℕ → ℕ → Bool
amount_set b k = not (eqb (word64 b (amount_at k)) 0)

abbrev pub unused_set : List ℕ → Bool
unused_set b =
    cond (eqb (kind_of b) 1) (axis_set b 1 || (amount_set b 1 || amount_set b 2))
    (cond (eqb (kind_of b) 2) (amount_set b 2) (axis_set b 0 || axis_set b 1))

abbrev pub point_count : List ℕ → ℕ
point_count b = vertex_count_of b * axes_of b

-- where the cells begin, and, by version, the bytes of a cell before its vertices, and all its bytes
abbrev pub cells_start : List ℕ → ℕ
cells_start b = header_size + point_count b * 8

abbrev pub cell_head : ℕ → ℕ
cell_head k = cond (with_materials k) 3 1

abbrev pub cell_bytes : ℕ → ℕ → ℕ
cell_bytes k d = cell_head k + suc d * 2

abbrev pub file_length : List ℕ → ℕ
file_length b = cells_start b + cell_count_of b * cell_bytes (version_of b) (dimension_of b)

unfoldable pub file_points : List ℕ → List Float
file_points b = tabulate (point_count b) (λ k. float64 b (header_size + k * 8))

-- the bytes of cell p
abbrev pub cell_part : List ℕ → ℕ → List ℕ
cell_part b p = part (cell_bytes (version_of b) (dimension_of b)) p (drop (cells_start b) b)

abbrev pub sign_bytes : List ℕ → List ℕ
sign_bytes b = tabulate (cell_count_of b) (λ p. get_or (cell_part b p) 0 0)

abbrev pub material_of : List ℕ → ℕ → ℕ
material_of b p = cond (with_materials (version_of b)) (word16 (cell_part b p) 1) 0

-- 43 is plus, 45 is minus
abbrev pub file_cell : List ℕ → ℕ → Cell
file_cell b p = cell (eqb (get_or (cell_part b p) 0 0) 43) (material_of b p) (words16 (drop (cell_head (version_of b)) (cell_part b p)))

unfoldable pub file_cells : List ℕ → List Cell
file_cells b = tabulate (cell_count_of b) (file_cell b)
