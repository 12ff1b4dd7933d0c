-- Cells and wings as the code holds them: rows of eight words a cell, a sign a cell, and d + 1 wings a cell. Materials stay in
-- the words that were read: neither rows 9 to 11 nor wings look at them.
--   row_of_eight w                  a cell's vertices as they travel: a row of eight numbers, unused places 0
--   cell_held d rows signs made p  cell p, of material made p; held_cells d s rows signs made are the s cells
--   material_at size ws p          the material of record p of the words ws, size words a record
--   cell_read size d ws p          the cell of record p of the words ws, size words a record
--   record_list size d v s ws      the list of the first s of these cells
-- Gathered .. rows and signs with cell p read, put in ascending order, and stored as a row of eight; the cells before it as they were
--   above_at size k most ws p      whether the word at place k of record p is above the most that it may be
--   beyond_at d v rows p           whether the last vertex of the row of cell p is v or above
--   falls d rows p                whether the row of cell p does not ascend; falls_at rows p j at vertices j and j + 1
--   faults cs                     the number of the first of rows 9 to 11 that refuses them, 0 if none does
--   Taken l rows signs made wings     what is held is the list's cells in ascending order, and their wings
--   run n at xs                   the n words of a list from a place on
--   record_held d rows signs wings m p     record p of the table of what is held, with the material m
--   held_words d s rows signs made wings   the words of the table
--   Winged d cs W                 the words W are the neighbours of the cells
--   Blank W                       32,768 empty wings
use Rattle.std.specs.Prelude.{Bool, false, cond, List, ◌∷◌, ◌++◌, ◌≡◌, ℕ, suc, ◌+◌, ◌*◌, ◌-◌, ◌<◌, leb, ltb, length, take, get_or, replicate}
use Rattle.words.specs.Records.{tabulate, part, concat, any_below}
use Rattle.simplex.specs.Cell.{Row, Sign, Cell, cell, no_cell}
use Rattle.simplex.specs.Order.{ascending}
use Rattle.simplex.specs.Faces.{without, facets}
use Rattle.simplex.specs.SignWords.{sign_word}
use Rattle.records.specs.Layout.{empty, list_size, material_place, cell_of}
use Rattle.solids.specs.Accept.{Listed, solid_of, cell_twice, crowded_face, equal_signs}
use Rattle.solids.specs.Wings.{neighbour}

abbrev pub row_of_eight : Row → List ℕ
row_of_eight w = w ++ replicate (8 - length w) 0

abbrev pub cell_held : ℕ → List ℕ → List Sign → (ℕ → ℕ) → ℕ → Cell
cell_held d rows signs made p = cell (get_or signs p false) (made p) (take (suc d) (part 8 p rows))

abbrev pub held_cells : ℕ → ℕ → List ℕ → List Sign → (ℕ → ℕ) → List Cell
held_cells d s rows signs made = tabulate s (λ p. cell_held d rows signs made p)

abbrev pub material_at : ℕ → List ℕ → ℕ → ℕ
material_at size ws p = get_or ws (p * size + material_place) 0

abbrev pub cell_read : ℕ → ℕ → List ℕ → ℕ → Cell
cell_read size d ws p = cell_of (take (list_size d) (part size p ws))

abbrev pub record_list : ℕ → ℕ → ℕ → ℕ → List ℕ → Listed
record_list size d v s ws = record { d = d; v = v; s = s; words = concat (tabulate s (λ p. take (list_size d) (part size p ws))) }

pub record Gathered (size d p : ℕ) (ws rows : List ℕ) (signs : List Sign) (rows' : List ℕ) (signs' : List Sign) : Type 0 where
  pub wide : length rows' ≡ 32768
  pub many : length signs' ≡ 4096
  pub new : cell_held d rows' signs' (material_at size ws) p ≡ ascending (cell_read size d ws p)
  pub eight : part 8 p rows' ≡ row_of_eight (ascending (cell_read size d ws p)).row
  pub old : (q : ℕ) → q < p → cell_held d rows' signs' (material_at size ws) q ≡ cell_held d rows signs (material_at size ws) q

abbrev pub above_at : ℕ → ℕ → ℕ → List ℕ → ℕ → Bool
above_at size k most ws p = ltb most (get_or ws (p * size + k) 0)

abbrev pub beyond_at : ℕ → ℕ → List ℕ → ℕ → Bool
beyond_at d v rows p = leb v (get_or rows (p * 8 + d) 0)

abbrev pub falls_at : List ℕ → ℕ → ℕ → Bool
falls_at rows p j = leb (get_or rows (p * 8 + j + 1) 0) (get_or rows (p * 8 + j) 0)

abbrev pub falls : ℕ → List ℕ → ℕ → Bool
falls d rows p = any_below d (falls_at rows p)

unfoldable pub faults : List Cell → ℕ
faults cs = cond (cell_twice cs) 9 (cond (crowded_face (facets cs)) 10 (cond (equal_signs (facets cs)) 11 0))

abbrev pub Winged : ℕ → List Cell → List ℕ → Type 0
Winged d cs W = (p a : ℕ) → p < length cs → a < suc d → get_or W (p * suc d + a) 0 ≡ neighbour p (without a (get_or cs p no_cell).row) cs

abbrev pub Blank : List ℕ → Type 0
Blank W = (length W ≡ 32768) × ((g : ℕ) → g < 32768 → get_or W g 0 ≡ empty)

pub record Taken (l : Listed) (rows : List ℕ) (signs : List Sign) (made : ℕ → ℕ) (wings : List ℕ) : Type 0 where
  pub wide : length rows ≡ 32768
  pub cells : solid_of l ≡ held_cells l.d l.s rows signs made
  pub winged : Winged l.d (held_cells l.d l.s rows signs made) wings

abbrev pub run : ℕ → ℕ → List ℕ → List ℕ
run n at xs = tabulate n (λ j. get_or xs (at + j) 0)

unfoldable pub record_held : ℕ → List ℕ → List Sign → List ℕ → ℕ → ℕ → List ℕ
record_held d rows signs wings m p = sign_word (get_or signs p false) ∷ m ∷ (run (d + 1) (p * 8) rows ++ run (d + 1) (p * (d + 1)) wings)

unfoldable pub held_words : ℕ → ℕ → List ℕ → List Sign → (ℕ → ℕ) → List ℕ → List ℕ
held_words d s rows signs made wings = concat (tabulate s (λ p. record_held d rows signs wings (made p) p))
