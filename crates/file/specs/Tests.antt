-- The tests that read makes of a file, each by itself, and the words of its cells. Paper, sections 7 and 9.
--   not_ours           row 1
--   numbers_fit, numbers_ok     row 2, of the numbers by themselves and of a file
--   floats_ok          row 4
--   cells_length       words of the cells
--   file_words         these words: sign word, material and vertices in file order
use Rattle.std.specs.Prelude.{Bool, not, ◌&&◌, ◌||◌, List, map, ℕ, suc, ◌*◌, leb, ltb, length, take}
use Rattle.words.specs.Records.{tabulate, concat, all_of}
use Rattle.rules.specs.Limits.{max_source, axes_ok, steps_ok, version_ok, within}
use Rattle.rules.specs.Shapes.{shape_ok}
use Rattle.simplex.specs.Cell.{same_row}
use Rattle.records.specs.Layout.{list_size, cell_words}
use Rattle.points.specs.Step.{in_range}
use Rattle.file.specs.File.{mark, version_of, header_size, dimension_of, axes_of, vertex_count_of, cell_count_of, steps_of, kind_of, amount_of}
use Rattle.file.specs.File.{file_points}
use Rattle.file.specs.File.{file_cells}

-- 1: under 40 bytes, or mark or version wrong
abbrev pub not_ours : List ℕ → Bool
not_ours b = ltb (length b) header_size || not (same_row (take 3 b) mark && version_ok (version_of b))

-- 2, of the numbers by themselves: d 0 to 6, n from d + 1 to 8, sizes, steps, kind
abbrev pub numbers_fit : ℕ → ℕ → ℕ → ℕ → ℕ → ℕ → Bool
numbers_fit d n v s h k = shape_ok max_source d v s && ((axes_ok n && leb (suc d) n) && (steps_ok h && within 1 3 k))

abbrev pub numbers_ok : List ℕ → Bool
numbers_ok b = numbers_fit (dimension_of b) (axes_of b) (vertex_count_of b) (cell_count_of b) (steps_of b) (kind_of b)

-- 4: all three floats of the header, used or not, and all points
abbrev pub floats_ok : List ℕ → Bool
floats_ok b = all_of in_range (tabulate 3 (amount_of b)) && all_of in_range (file_points b)

abbrev pub cells_length : List ℕ → ℕ
cells_length b = cell_count_of b * list_size (dimension_of b)

-- the words of the cells: sign word, material and vertices in file order
unfoldable pub file_words : List ℕ → List ℕ
file_words b = concat (map cell_words (file_cells b))
