-- Two signs and the places of a row, computed.
use mathlib.Core.Path.{◌≡◌, refl}
use mathlib.Core.Bool.{true, false}
use mathlib.Core.List.{[], ◌∷◌}
use Rattle.simplex.specs.Cell.{cell}
use Rattle.simplex.specs.Faces.{face}
use Rattle.simplex.specs.Order.{ascending, places}

-- the start of a segment is its face with the sign turned over
pub start_of_a_segment : face 1 (cell true 7 (0 ∷ 1 ∷ [])) ≡ cell false 7 (0 ∷ [])
start_of_a_segment = refl

-- a segment from vertex 1 to vertex 0
pub turned_over : ascending (cell true 7 (1 ∷ 0 ∷ [])) ≡ cell false 7 (0 ∷ 1 ∷ [])
turned_over = refl

-- 0, 1 and 2 stood at places 1, 2 and 0
pub places_of_a_row : places (2 ∷ 0 ∷ 1 ∷ []) ≡ 1 ∷ 2 ∷ 0 ∷ []
places_of_a_row = refl
