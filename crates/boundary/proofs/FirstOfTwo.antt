-- Two faults at once: the first row that applies is told. A refused call leaves the lent words as they were.
use mathlib.Core.Path.{◌≡◌, refl}
use mathlib.Core.List.{List, [], ◌∷◌}
use Prim.Native.Nat.{ℕ}
use Rattle.rules.specs.Calls.{refused}
use Rattle.solids.proofs.Computing.{computing}
use Rattle.boundary.specs.Faces.{FacesInput, boundary_cells, faces_rules, faces_outcome, faces_buffer}

-- one cell on one vertex
abbrev told : ℕ → List ℕ → ℕ → FacesInput
told d words room = record { d = d; v = 1; s = 1; table = words; room = room }

-- dimension 8, and no words
pub limits_before-length : faces_outcome (told 8 [] 0) ≡ refused 2
unfolding computing faces_rules faces_outcome
limits_before-length = refl

-- a point without words, which is not the table of its own cells
pub length-before-sound : faces_outcome (told 0 [] 0) ≡ refused 3
unfolding computing faces_rules faces_outcome
length-before-sound = refl

-- a segment on vertices 0 and 1 of one, and no room for its two ends
pub sound-before-room : faces_outcome (told 1 (0 ∷ 0 ∷ 0 ∷ 1 ∷ 65535 ∷ 65535 ∷ []) 0) ≡ refused 14
unfolding computing boundary_cells faces_rules faces_outcome
sound-before-room = refl

pub untouched : faces_buffer (told 1 (0 ∷ 0 ∷ 0 ∷ 1 ∷ 65535 ∷ 65535 ∷ []) 0) (7 ∷ 7 ∷ []) ≡ 7 ∷ 7 ∷ []
unfolding computing boundary_cells faces_rules faces_outcome faces_buffer
untouched = refl
