-- Why a sweep that glues only its first level cannot pass the third term. Its cells are right, but the levels above are
-- stacked without wings. So a face that two cells share without wings to each other is read off twice, once from each, with
-- opposite signs. As a sum that is nothing; but `distinct` of the third term, each face at most once, fails.
--   stacked kept c es     entries of the cells c, c + 1, ..; of the wings w of a cell c those with kept c w stay, the others are emptied
--   levels_apart m es      the wings between levels emptied; a level has m cells
--   first_glued m es       all wings emptied but those between cells of the first level
--   glued                 a segment swept in two steps, by the rule
--   apart, first          the same, stacked in these two ways
use Rattle.std.specs.Prelude.{◌≡◌, Bool, true, false, cond, ◌&&◌, List, [], ◌∷◌, map, ℕ, suc, ◌/◌, ◌≤◌, eqb, ltb}
use Rattle.rules.specs.Calls.{accepted, refused}
use Rattle.simplex.specs.Cell.{Row}
use Rattle.simplex.specs.Chain.{count_on, total, coefficient}
use Rattle.records.specs.Layout.{empty, Entry, table_words}
use Rattle.boundary.specs.Boundary.{boundary_of}
use Rattle.boundary.specs.Faces.{FacesInput, faces_outcome}
use Rattle.theorems.specs.Shorthand.{swept_entries, ample}
use Rattle.theorems.specs.MarkedKeys.{segment}

abbrev pub stacked : (ℕ → ℕ → Bool) → ℕ → List Entry → List Entry
stacked kept c [] = []
stacked kept c (e ∷ es) = record { cell = e.cell; wings = map (λ w. cond (kept c w) w empty) e.wings } ∷ stacked kept (suc c) es

abbrev pub levels_apart : ℕ → List Entry → List Entry
levels_apart m es = stacked (λ c w. eqb (c / m) (w / m)) 0 es

abbrev pub first_glued : ℕ → List Entry → List Entry
first_glued m es = stacked (λ c w. ltb c m && ltb w m) 0 es

-- +012 and -123 at level 0, +234 and -345 at level 1
abbrev pub glued : List Entry
glued = swept_entries 2 segment

abbrev pub apart : List Entry
apart = levels_apart 2 glued

abbrev pub first : List Entry
first = first_glued 2 glued

-- the face between the levels, and the one between the two cells of level 1
abbrev pub between : Row
between = 2 ∷ 3 ∷ []

abbrev pub inner : Row
inner = 3 ∷ 4 ∷ []

abbrev pub faces_of : List Entry → FacesInput
faces_of es = record { d = 2; v = 6; s = 4; table = table_words es; room = ample }

pub record Stacked : Type 0 where
  -- by the rule: neither face is on the boundary, and faces accepts the table
  pub none : (total between (boundary_of glued) ≡ 0) × (total inner (boundary_of glued) ≡ 0) × (faces_outcome (faces_of glued) ≡ accepted 6)
  -- levels apart: the face between them stands twice, once with each sign
  pub between-twice : total between (boundary_of apart) ≡ 2
  pub each-sign : (count_on true between (boundary_of apart) ≡ 1) × (count_on false between (boundary_of apart) ≡ 1)
  -- the upper level without wings: so does the face within it
  pub inner-twice : (total between (boundary_of first) ≡ 2) × (total inner (boundary_of first) ≡ 2)
  -- the sums do not tell: each coefficient is 0, as in the true boundary
  pub sums : (coefficient between (boundary_of apart) ≡ coefficient between (boundary_of glued))
      × (coefficient inner (boundary_of first) ≡ coefficient inner (boundary_of glued))
  -- `distinct` does
  pub not_distinct : (((w : Row) → total w (boundary_of apart) ≤ 1) → ⊥) × (((w : Row) → total w (boundary_of first) ≤ 1) → ⊥)
  -- and faces refuses both tables
  pub unsound : (faces_outcome (faces_of apart) ≡ refused 14) × (faces_outcome (faces_of first) ≡ refused 14)
