-- Two faults at once: the first row that applies is told. One list for each pair of neighbouring rows of 6, 7, 8, 18, 9, 10, 11.
use mathlib.Core.Path.{◌≡◌, refl}
use mathlib.Core.List.{List, [], ◌∷◌}
use Prim.Native.Nat.{ℕ}
use Rattle.rules.specs.Calls.{first_refusal}
use Rattle.solids.specs.Accept.{solid_rules}

abbrev pub told : ℕ → ℕ → ℕ → List ℕ → ℕ
told d v s words = first_refusal solid_rules (record { d = d; v = v; s = s; words = words })

-- a point with the sign word 2 on vertex 5 of one
pub sign-before-vertex : told 0 1 1 (2 ∷ 0 ∷ 5 ∷ []) ≡ 6
unfolding solid_rules
sign-before-vertex = refl

-- a segment from vertex 3 of one to itself
pub vertex-before-twice : told 1 1 1 (0 ∷ 0 ∷ 3 ∷ 3 ∷ []) ≡ 7
unfolding solid_rules
vertex-before-twice = refl

-- two segments from vertex 0 to itself, one of material 1,000
pub twice-before-material : told 1 2 2 (0 ∷ 1000 ∷ 0 ∷ 0 ∷ 0 ∷ 0 ∷ 0 ∷ 0 ∷ []) ≡ 8
unfolding solid_rules
twice-before-material = refl

-- one segment twice, once of material 1,000
pub material-before-cells : told 1 2 2 (0 ∷ 0 ∷ 0 ∷ 1 ∷ 0 ∷ 1000 ∷ 0 ∷ 1 ∷ []) ≡ 18
unfolding solid_rules
material-before-cells = refl

-- one segment three times
pub cells-before_crowd : told 1 2 3 (0 ∷ 0 ∷ 0 ∷ 1 ∷ 0 ∷ 0 ∷ 0 ∷ 1 ∷ 0 ∷ 0 ∷ 0 ∷ 1 ∷ []) ≡ 9
unfolding solid_rules
cells-before_crowd = refl

-- three segments that leave vertex 0, all plus
pub crowd_before-signs : told 1 4 3 (0 ∷ 0 ∷ 0 ∷ 1 ∷ 0 ∷ 0 ∷ 0 ∷ 2 ∷ 0 ∷ 0 ∷ 0 ∷ 3 ∷ []) ≡ 10
unfolding solid_rules
crowd_before-signs = refl
