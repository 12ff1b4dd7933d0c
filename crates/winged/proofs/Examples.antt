-- What a host gets for small solids, computed.
use mathlib.Core.Path.{◌≡◌, refl}
use mathlib.Core.List.{[], ◌∷◌}
use lib.IntN.{pos}
use lib.ListN.{replicate}
use Rattle.rules.specs.Calls.{refused}
use Rattle.solids.proofs.Computing.{computing}
use Rattle.wing.specs.Wing.{wing_rules, wing_outcome}
use Rattle.boundary.specs.Faces.{boundary_cells, faces_rules, faces_outcome}
use Rattle.winged.specs.Host.{host_wing_outcome, host_wing_buffer, host_faces_outcome, host_faces}

-- a point of material 7 on vertex 1 of two: its low byte stands first
pub low_byte_first : host_wing_buffer 0 2 1 (0 ∷ 0 ∷ 7 ∷ 0 ∷ 1 ∷ 0 ∷ []) (replicate 8 7) (replicate 2 7) ≡ 0 ∷ 0 ∷ 7 ∷ 0 ∷ 1 ∷ 0 ∷ 255 ∷ 255 ∷ []
unfolding computing wing_rules wing_outcome host_wing_outcome host_wing_buffer
low_byte_first = refl

-- a point and half a word
pub odd_bytes : host_wing_outcome 0 1 1 (0 ∷ 0 ∷ 0 ∷ 0 ∷ 0 ∷ 0 ∷ 0 ∷ []) (replicate 8 7) (replicate 2 7) ≡ refused 3
unfolding computing wing_rules wing_outcome host_wing_outcome
odd_bytes = refl

-- a segment's two ends, of three words each
pub words-counted : host_faces 1 2 1 (0 ∷ 0 ∷ 0 ∷ 0 ∷ 0 ∷ 0 ∷ 1 ∷ 0 ∷ 255 ∷ 255 ∷ 255 ∷ 255 ∷ []) (replicate 12 7) ≡ pos 6
unfolding computing boundary_cells faces_rules faces_outcome host_faces_outcome host_faces
words-counted = refl
