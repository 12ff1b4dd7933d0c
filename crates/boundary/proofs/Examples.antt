-- Small boundaries, computed.
use mathlib.Core.Path.{◌≡◌, refl}
use mathlib.Core.Bool.{true, false}
use mathlib.Core.List.{[], ◌∷◌}
use Rattle.simplex.specs.Cell.{cell}
use Rattle.boundary.specs.Boundary.{boundary_of, own_boundary}

-- two segments in a row, of two materials, have two ends: where they meet is none
pub ends_of_a_row : own_boundary (cell true 3 (0 ∷ 1 ∷ []) ∷ cell true 7 (1 ∷ 2 ∷ []) ∷ []) ≡ cell false 3 (0 ∷ []) ∷ cell true 7 (2 ∷ []) ∷ []
ends_of_a_row = refl

-- a segment with a neighbour at its first vertex
pub face_at_empty_wing : boundary_of (record { cell = cell true 5 (0 ∷ 1 ∷ []); wings = 65535 ∷ 1 ∷ [] } ∷ []) ≡ cell true 5 (1 ∷ []) ∷ []
face_at_empty_wing = refl
