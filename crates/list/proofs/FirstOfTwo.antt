-- Two faults at once: the first row that applies is told. A refused call leaves the lent bytes as they were.
use mathlib.Core.Path.{◌≡◌, refl}
use mathlib.Core.List.{List, [], ◌∷◌}
use Prim.Native.Nat.{ℕ}
use lib.ListN.{length}
use lib.Ieee.{Float, binary64, of_bits}
use Rattle.words.specs.Text.{ascii}
use Rattle.rules.specs.Calls.{refused}
use Rattle.solids.proofs.Computing.{computing}
use Rattle.points.proofs.Computing.{computing as points-computing}
use Rattle.printing.specs.Decimal.{digits, thousandths, coordinate}
use Rattle.listing.specs.Lines.{first_line, vertex_line, face_line, key_text}
use Rattle.list.specs.List.{ListInput, list_input, list_text, list_rules, list_outcome, list_buffer}

-- 0.0, and 1,048,576, which is out of range
abbrev origin : Float
origin = of_bits binary64 0

abbrev beyond : Float
beyond = of_bits binary64 0x4130000000000000

-- one cell on one vertex at x of one axis, and no room
abbrev told : ℕ → List ℕ → Float → ListInput
told d words x = list_input 2 d 1 1 1 words (x ∷ []) 0

-- no version, and no words
pub version-before-length : (list_outcome (list_input 0 0 1 1 1 [] (origin ∷ []) 0) ≡ refused 2)
    × (list_outcome (list_input 3 0 1 1 1 [] (origin ∷ []) 0) ≡ refused 2)
unfolding computing list_rules list_outcome
version-before-length = (refl, refl)

-- dimension 8, and no words
pub limits_before-length : list_outcome (told 8 [] origin) ≡ refused 2
unfolding computing list_rules list_outcome
limits_before-length = refl

pub length-before_range : list_outcome (told 0 [] beyond) ≡ refused 3
unfolding computing points-computing list_rules list_outcome
length-before_range = refl

-- a point that is its own neighbour
pub range_before-sound : list_outcome (told 0 (0 ∷ 0 ∷ 0 ∷ 0 ∷ []) beyond) ≡ refused 4
unfolding computing points-computing list_rules list_outcome
range_before-sound = refl

pub sound-before-room : list_outcome (told 0 (0 ∷ 0 ∷ 0 ∷ 0 ∷ []) origin) ≡ refused 14
unfolding computing points-computing digits thousandths coordinate first_line vertex_line face_line key_text list_text list_rules list_outcome
sound-before-room = refl

pub untouched : length (list_buffer (told 0 (0 ∷ 0 ∷ 0 ∷ 0 ∷ []) origin) []) ≡ 0
unfolding computing points-computing digits thousandths coordinate first_line vertex_line face_line key_text list_text list_rules list_outcome
    list_buffer
untouched = refl

-- the text of one point
pub text_of_a_point : list_text (told 0 (0 ∷ 7 ∷ 0 ∷ 65535 ∷ []) origin) ≡ ascii "key 0 1 1 0\nv 0 0.000\n"
unfolding computing points-computing digits thousandths coordinate first_line vertex_line face_line key_text list_text
text_of_a_point = refl

-- a segment of material 7 between two points at 0, by version
abbrev segment : ℕ → ListInput
segment k = list_input k 1 1 2 1 (0 ∷ 7 ∷ 0 ∷ 1 ∷ 65535 ∷ 65535 ∷ []) (origin ∷ origin ∷ []) 99

pub text-without-material : list_text (segment 1) ≡ ascii "key 1 1 2 2\nv 0 0.000\nv 1 0.000\n+ 1\n- 0\n"
unfolding computing points-computing digits thousandths coordinate first_line vertex_line face_line key_text list_text
text-without-material = refl

pub text_with_material : list_text (segment 2) ≡ ascii "key 1 1 2 2\nv 0 0.000\nv 1 0.000\n+ 1 7\n- 0 7\n"
unfolding computing points-computing digits thousandths coordinate first_line vertex_line face_line key_text list_text
text_with_material = refl
