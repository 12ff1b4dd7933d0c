-- Two faults at once: the first row that applies is told. A refused call leaves the lent floats as they were. And a cell by
-- version.
use mathlib.Core.Path.{◌≡◌, refl}
use mathlib.Core.List.{List, [], ◌∷◌, ◌++◌}
use Prim.Native.Nat.{ℕ}
use lib.ListN.{length, replicate}
use Rattle.words.specs.Text.{ascii}
use Rattle.rules.specs.Calls.{refused}
use Rattle.points.proofs.Computing.{computing}
use Rattle.file.specs.File.{file_points, file_cells}
use Rattle.file.specs.Tests.{file_words}
use Rattle.read.specs.Read.{ReadInput, read_input, read_rules, header_of, read_outcome, read_points}

-- a file of version k: a segment from vertex x of one to itself in n axes, slid in one step on an axis; 63 as the top byte makes
-- the slide's length 1.0, and 65 a number out of range; n is to be 2, the axis 0 or 1, and the sign byte 43 or 45; made are the
-- bytes of the material
abbrev file_of : ℕ → List ℕ → ℕ → ℕ → ℕ → ℕ → ℕ → List ℕ
file_of k made n top axis sign x =
    ascii "WNG"
    ++ (k ∷ 0 ∷ 1 ∷ n ∷ 1 ∷ 0 ∷ 1 ∷ 0 ∷ 1 ∷ 0 ∷ 1 ∷ axis ∷ 0 ∷ [])
    ++ (0 ∷ 0 ∷ 0 ∷ 0 ∷ 0 ∷ 0 ∷ 240 ∷ top ∷ [])
    ++ replicate 32 0
    ++ (sign ∷ (made ++ (x ∷ 0 ∷ x ∷ 0 ∷ [])))

abbrev file : ℕ → ℕ → ℕ → ℕ → ℕ → List ℕ
file = file_of 1 []

-- a file of version k: a point on one axis, slid in one step
abbrev point_of : ℕ → List ℕ → List ℕ
point_of k made =
    ascii "WNG"
    ++ (k ∷ 0 ∷ 0 ∷ 1 ∷ 1 ∷ 0 ∷ 1 ∷ 0 ∷ 1 ∷ 0 ∷ 1 ∷ 0 ∷ 0 ∷ [])
    ++ (0 ∷ 0 ∷ 0 ∷ 0 ∷ 0 ∷ 0 ∷ 240 ∷ 63 ∷ [])
    ++ replicate 24 0
    ++ (43 ∷ (made ++ (0 ∷ 0 ∷ [])))

abbrev told : List ℕ → ReadInput
told b = read_input b 0 0

pub mark-before_limits : read_outcome (told []) ≡ refused 1
unfolding computing read_rules read_outcome
mark-before_limits = refl

pub limits_before-length : read_outcome (told (file 1 63 0 43 0)) ≡ refused 2
unfolding computing read_rules read_outcome
limits_before-length = refl

-- a byte too many
pub length-before_range : read_outcome (told (file 2 65 0 43 0 ++ 0 ∷ [])) ≡ refused 3
unfolding computing read_rules read_outcome
length-before_range = refl

pub range_before-step : read_outcome (told (file 2 65 2 43 0)) ≡ refused 4
unfolding computing file_points read_rules read_outcome
range_before-step = refl

pub step-before-sign : read_outcome (told (file 2 63 2 42 0)) ≡ refused 5
unfolding computing file_points read_rules read_outcome
step-before-sign = refl

pub sign-before-vertex : read_outcome (told (file 2 63 0 42 1)) ≡ refused 6
unfolding computing file_points file_cells read_rules read_outcome
sign-before-vertex = refl

pub vertex-before-twice : read_outcome (told (file 2 63 0 43 1)) ≡ refused 7
unfolding computing file_points file_cells read_rules read_outcome
vertex-before-twice = refl

-- of material 1,000
pub twice-before-material : read_outcome (told (file_of 2 (232 ∷ 3 ∷ []) 2 63 0 43 0)) ≡ refused 8
unfolding computing file_points file_cells read_rules read_outcome
twice-before-material = refl

pub material-before-room : read_outcome (told (point_of 2 (232 ∷ 3 ∷ []))) ≡ refused 18
unfolding computing file_points file_cells read_rules read_outcome
material-before-room = refl

-- material 999, and no room
pub material-within : read_outcome (told (point_of 2 (231 ∷ 3 ∷ []))) ≡ refused 15
unfolding computing file_points file_cells read_rules read_outcome
material-within = refl

-- there is no version 3
pub third_version : read_outcome (told (point_of 3 (7 ∷ 0 ∷ []))) ≡ refused 1
unfolding computing read_rules read_outcome
third_version = refl

-- the words of its cell by version
pub with_material : file_words (point_of 2 (7 ∷ 0 ∷ [])) ≡ 0 ∷ 7 ∷ 0 ∷ []
unfolding file_cells file_words
with_material = refl

pub without-material : file_words (point_of 1 []) ≡ 0 ∷ 0 ∷ 0 ∷ []
unfolding file_cells file_words
without-material = refl

pub untouched : length (read_points (told (file 2 63 0 43 0)) []) ≡ 0
unfolding computing file_points file_cells read_rules header_of read_outcome read_points
untouched = refl
