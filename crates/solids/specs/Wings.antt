-- Neighbours, told from the cells alone. Paper, section 3.
--   has_face w v           whether the cell on the row v has the face w; in dimension 0 there is none
--   neighbour p w cs      the number of the first cell other than p that has the face w, or 65535
--   wings_of cs p c        the wings of cell p of the list: its neighbour at each face
use Rattle.std.specs.Prelude.{Bool, true, not, cond, ◌&&◌, List, [], ◌∷◌, map, ℕ, suc, eqb, ltb}
use Rattle.records.specs.Layout.{empty}
use Rattle.simplex.specs.Cell.{Row, Cell, filled}
use Rattle.simplex.specs.Faces.{faces}
use Rattle.simplex.specs.Chain.{total}

abbrev pub has_face : Row → Row → Bool
has_face w v = filled w && ltb 0 (total w (faces true 0 v))

-- the same, with the cells of the list numbered from n
abbrev pub neighbour_from : ℕ → ℕ → Row → List Cell → ℕ
neighbour_from p n w [] = empty
neighbour_from p n w (c ∷ cs) = let r = neighbour_from p (suc n) w cs in cond (not (eqb p n) && has_face w c.row) n r

abbrev pub neighbour : ℕ → Row → List Cell → ℕ
neighbour p w cs = neighbour_from p 0 w cs

abbrev pub wings_of : List Cell → ℕ → Cell → List ℕ
wings_of cs p c = map (λ f. neighbour p f.row cs) (faces c.sign c.material c.row)
