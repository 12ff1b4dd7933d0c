-- What refuses a list of cells: rows 6 to 8, 18 and 9 to 11 of the refusal table, in this order. Paper, sections 2 and 9.
--   Listed            a list of cells as words, with its dimension d, vertex count v and cell count s
--   solid_of l         its cells in ascending order
--   solid_rules        the seven rows
--   acceptable l      no row applies
use Rattle.std.specs.Prelude.{Bool, false, not, ◌||◌, List, [], ◌∷◌, map, ℕ, eqb, leb, ltb, get_or}
use Rattle.words.specs.Records.{tabulate, part, any_of}
use Rattle.rules.specs.Limits.{max_material}
use Rattle.rules.specs.Calls.{Rule, refuse, first_refusal}
use Rattle.simplex.specs.Cell.{Row, Cell}
use Rattle.simplex.specs.Order.{ascending}
use Rattle.simplex.specs.Faces.{facets}
use Rattle.simplex.specs.Chain.{count_on, total}
use Rattle.records.specs.Layout.{list_size, cells_of}

pub record Listed : Type 0 where
  pub d : ℕ
  pub v : ℕ
  pub s : ℕ
  pub words : List ℕ

abbrev pub listed_cells : Listed → List Cell
listed_cells l = cells_of l.d l.s l.words

abbrev pub solid_of : Listed → List Cell
solid_of l = map ascending (listed_cells l)

-- 6: a sign word that is neither 0 nor 1
abbrev pub bad_sign : Listed → Bool
bad_sign l = any_of (λ x. not (leb x 1)) (tabulate l.s (λ p. get_or (part (list_size l.d) p l.words) 0 0))

-- 7: a vertex that is v or above
abbrev pub vertex_beyond : ℕ → List Cell → Bool
vertex_beyond v cs = any_of (λ c. any_of (λ x. leb v x) c.row) cs

-- 8: a vertex twice in a cell
abbrev pub repeats : Row → Bool
repeats [] = false
repeats (x ∷ w) = any_of (eqb x) w || repeats w

abbrev pub vertex_twice : List Cell → Bool
vertex_twice cs = any_of (λ c. repeats c.row) cs

-- 18: a material above the largest
abbrev pub bad_material : List Cell → Bool
bad_material cs = any_of (λ c. ltb max_material c.material) cs

-- 9: two cells on the same vertices
abbrev pub cell_twice : List Cell → Bool
cell_twice cs = any_of (λ c. ltb 1 (total c.row cs)) cs

-- 10: a face in three or more cells
abbrev pub crowded_face : List Cell → Bool
crowded_face fs = any_of (λ f. ltb 2 (total f.row fs)) fs

-- 11: a face that two cells share with equal signs
abbrev pub equal_signs : List Cell → Bool
equal_signs fs = any_of (λ f. ltb 1 (count_on f.sign f.row fs)) fs

unfoldable pub solid_rules : List (Rule Listed)
solid_rules =
    refuse 6 bad_sign
    ∷ refuse 7 (λ l. vertex_beyond l.v (listed_cells l))
    ∷ refuse 8 (λ l. vertex_twice (listed_cells l))
    ∷ refuse 18 (λ l. bad_material (listed_cells l))
    ∷ refuse 9 (λ l. cell_twice (solid_of l))
    ∷ refuse 10 (λ l. crowded_face (facets (solid_of l)))
    ∷ refuse 11 (λ l. equal_signs (facets (solid_of l)))
    ∷ []

unfoldable pub acceptable : Listed → Bool
acceptable l = eqb (first_refusal solid_rules l) 0
