-- Small sweeps, computed: side pairs, swept cells and their wings.
use mathlib.Core.Path.{◌≡◌, refl}
use mathlib.Core.Bool.{true, false}
use mathlib.Core.List.{[], ◌∷◌}
use Prim.Native.Nat.{ℕ}
use lib.ListN.{get_or}
use Rattle.simplex.specs.Cell.{cell}
use Rattle.prism.specs.Cells.{prism}
use Rattle.prism.specs.Sides.{first_side, next_side, side, side_pair}
use Rattle.prism.specs.Wings.{swept_wing}

-- a triangle's first side over face 0, its first and second over face 1
pub first_over_face_0 : side_pair 2 0 0 ≡ side 1 2
first_over_face_0 = refl

pub first_over_face_1 : side_pair 2 1 0 ≡ side 0 1
first_over_face_1 = refl

pub second_over_face_1 : side_pair 2 1 1 ≡ side 2 2
second_over_face_1 = refl

-- the same three by the step rule
pub starts_over_face_0 : first_side 2 0 ≡ side 1 2
starts_over_face_0 = refl

pub starts_over_face_1 : first_side 2 1 ≡ side 0 1
starts_over_face_1 = refl

pub steps_over_face_1 : next_side 2 (side 0 1) ≡ side 2 2
steps_over_face_1 = refl

-- the two triangles over a segment, of its material
pub over_a_segment : prism 2 0 (cell true 7 (0 ∷ 1 ∷ [])) ≡ cell true 7 (0 ∷ 1 ∷ 2 ∷ []) ∷ cell false 7 (1 ∷ 2 ∷ 3 ∷ []) ∷ []
over_a_segment = refl

-- the wings of a segment alone, and those of two triangles that share their face 0 and their face 2
abbrev alone : ℕ → ℕ → ℕ
alone p a = 65535

abbrev two : ℕ → ℕ → ℕ
two p a = get_or (get_or ((1 ∷ 65535 ∷ 65535 ∷ []) ∷ (65535 ∷ 65535 ∷ 0 ∷ []) ∷ []) p []) a 65535

-- a segment in two steps: from the last cell of level 0 up, and from the first of level 1 down
pub up_a_level : swept_wing 1 1 2 alone 0 0 1 0 ≡ 2
up_a_level = refl

pub down_a_level : swept_wing 1 1 2 alone 1 0 0 2 ≡ 1
down_a_level = refl

-- from cell 1 over the first triangle aside
pub aside : swept_wing 2 2 1 two 0 0 1 2 ≡ 3
aside = refl
