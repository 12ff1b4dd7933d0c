-- What is across the faces of one cell.
--   face_first .. i p a        the first cell at level i over the cell across face a; empty where nothing is across
--   face_back .. p a           the position at which that cell has p across; 0 where nothing is across
--   side_word first back l     the side at place l over such a face, from these two
use Rattle.std.specs.Prelude.{ℕ, ◌+◌, cond, ◌==◌}
use Rattle.records.specs.Layout.{empty}
use Rattle.prism.specs.Sides.{side_cell}
use Rattle.prism.specs.Wings.{cell_number, back_to}

abbrev pub face_first : ℕ → ℕ → (ℕ → ℕ → ℕ) → ℕ → ℕ → ℕ → ℕ
face_first d s wing i p a = cond (wing p a == empty) empty (cell_number d s i (wing p a) 0)

abbrev pub face_back : ℕ → (ℕ → ℕ → ℕ) → ℕ → ℕ → ℕ
face_back d wing p a = cond (wing p a == empty) 0 (back_to wing p (wing p a) d)

abbrev pub side_word : ℕ → ℕ → ℕ → ℕ
side_word first back l = cond (first == empty) empty (first + side_cell back l)
