-- Two faults at once: the first row that applies is told. For rows 6 to 8, 18 and 9 to 11 see the file of this name in solids.
-- Row 15 is of either buffer; a refused call leaves both as they were.
use mathlib.Core.Path.{◌≡◌, refl}
use mathlib.Core.List.{[], ◌∷◌}
use Rattle.rules.specs.Calls.{accepted, refused}
use Rattle.solids.proofs.Computing.{computing}
use Rattle.wing.specs.Wing.{wing_input, wing_rules, wing_outcome, wing_buffer, uploaded_buffer}

-- dimension 8, and no words
pub limits_before-length : wing_outcome (wing_input 8 1 1 [] 0 0) ≡ refused 2
unfolding computing wing_rules wing_outcome
limits_before-length = refl

-- a point of one word, the sign word 2
pub length-before-sign : wing_outcome (wing_input 0 1 1 (2 ∷ []) 0 0) ≡ refused 3
unfolding computing wing_rules wing_outcome
length-before-sign = refl

-- two segments that leave vertex 0, of two materials, and no room
pub signs-before-room : wing_outcome (wing_input 1 3 2 (0 ∷ 5 ∷ 0 ∷ 1 ∷ 0 ∷ 6 ∷ 0 ∷ 2 ∷ []) 0 0) ≡ refused 11
unfolding computing wing_rules wing_outcome
signs-before-room = refl

-- a point: its table has four words, its wings one
pub either_buffer : (wing_outcome (wing_input 0 1 1 (0 ∷ 999 ∷ 0 ∷ []) 3 1) ≡ refused 15)
    × (wing_outcome (wing_input 0 1 1 (0 ∷ 999 ∷ 0 ∷ []) 4 0) ≡ refused 15)
unfolding computing wing_rules wing_outcome
either_buffer = (refl, refl)

pub room_enough : wing_outcome (wing_input 0 1 1 (0 ∷ 999 ∷ 0 ∷ []) 4 1) ≡ accepted 4
unfolding computing wing_rules wing_outcome
room_enough = refl

-- a refused call leaves both as they were
pub untouched : wing_buffer (wing_input 0 1 1 (0 ∷ 999 ∷ 0 ∷ []) 3 1) (7 ∷ 7 ∷ []) ≡ 7 ∷ 7 ∷ []
unfolding computing wing_rules wing_outcome wing_buffer
untouched = refl

pub untouched-wings : uploaded_buffer (wing_input 0 1 1 (0 ∷ 999 ∷ 0 ∷ []) 3 1) (7 ∷ []) ≡ 7 ∷ []
unfolding computing wing_rules wing_outcome uploaded_buffer
untouched-wings = refl
