-- The marked keys K1 to K10, as one statement about the definitions; cells are of material 0. Paper, section 11.
use Rattle.std.specs.Prelude.{◌≡◌, List, [], ◌∷◌, ◌++◌, ℕ, replicate}
use Rattle.std.specs.Float.{binary64}
use Rattle.std.specs.Float.Ieee.{of_bits}
use Rattle.words.specs.Text.{ascii}
use Rattle.rules.specs.Calls.{accepted, refused}
use Rattle.simplex.specs.Order.{ascending}
use Rattle.solids.specs.Accept.{Listed}
use Rattle.solids.specs.Table.{wing_at}
use Rattle.wing.specs.Wing.{wing_outcome}
use Rattle.prism.specs.Sides.{side, side_pair}
use Rattle.sweep.specs.Sweep.{sweep_outcome}
use Rattle.boundary.specs.Faces.{faces_outcome, boundary_cells}
use Rattle.points.specs.declared.step.Step.TheVariants as S
use Rattle.motion.specs.Move.{MoveInput, move_input, move_outcome}
use Rattle.printing.specs.Decimal.{coordinate}
use Rattle.page.specs.Key.{printed}
use Rattle.theorems.specs.Shorthand.{spelled, entry, list_of, to_wing, swept, swept_entries, faces_of_swept, one, ample}

-- d 0, n 1, V 1, S 1, h 1, slide on axis 0 by 1.0, point 0.5, cell plus 0
abbrev pub k1_file : List ℕ
k1_file =
    ascii "WNG"
    ++ (1 ∷ 0 ∷ 0 ∷ 1 ∷ 1 ∷ 0 ∷ 1 ∷ 0 ∷ 1 ∷ 0 ∷ 1 ∷ 0 ∷ 0 ∷ [])
    ++ (0 ∷ 0 ∷ 0 ∷ 0 ∷ 0 ∷ 0 ∷ 240 ∷ 63 ∷ [])
    ++ replicate 16 0
    ++ (0 ∷ 0 ∷ 0 ∷ 0 ∷ 0 ∷ 0 ∷ 224 ∷ 63 ∷ [])
    ++ (43 ∷ 0 ∷ 0 ∷ [])

abbrev pub k2_solid : Listed
k2_solid = list_of 2 4 (spelled "+012" ∷ spelled "-123" ∷ [])

abbrev pub point : Listed
point = list_of 0 1 (spelled "+0" ∷ [])

abbrev pub segment : Listed
segment = list_of 1 2 (spelled "+01" ∷ [])

abbrev pub k8_solid : Listed
k8_solid = list_of 4 6 (spelled "+01234" ∷ spelled "-12345" ∷ [])

-- one point among v vertices
abbrev pub point_among : ℕ → Listed
point_among v = list_of 0 v (spelled "+0" ∷ [])

-- v points of one axis at 0.0, slid by 1.0 in h steps
abbrev pub zeros_slid : ℕ → ℕ → MoveInput
zeros_slid v h = move_input 1 v h (S.Slide 0 one) (replicate v (of_bits binary64 0)) ample

-- V 2,048, h 1 and V 1,366, h 2
abbrev pub k9_most : MoveInput
k9_most = zeros_slid 2048 1

abbrev pub k9_over : MoveInput
k9_over = zeros_slid 1366 2

abbrev pub K1 : Type 0
K1 = printed k1_file ≡ ascii "key 1 1 2 2\nv 0 0.500\nv 1 1.500\n+ 1\n- 0\n"

abbrev pub K2-cells : Type 0
K2-cells =
    swept_entries 1 k2_solid
    ≡ entry "+0124" "1..." ∷ entry "+1245" "2.30" ∷ entry "+2456" ".4.1"
    ∷ entry "-1235" "4.1." ∷ entry "-2356" "52.3" ∷ entry "-3567" "...4" ∷ []

abbrev pub K2-faces : Type 0
K2-faces =
    boundary_cells (faces_of_swept 1 k2_solid)
    ≡ spelled "-024" ∷ spelled "+014" ∷ spelled "-012" ∷ spelled "-145" ∷ spelled "+456" ∷ spelled "+246"
    ∷ spelled "+135" ∷ spelled "+123" ∷ spelled "-236" ∷ spelled "-567" ∷ spelled "+367" ∷ spelled "-357" ∷ []

abbrev pub K2_calls : Type 0
K2_calls =
    (wing_outcome (to_wing k2_solid) ≡ accepted 16) × (sweep_outcome (swept 1 k2_solid) ≡ accepted 60)
    × (faces_outcome (faces_of_swept 1 k2_solid) ≡ accepted 12)

abbrev pub K3-cells : Type 0
K3-cells = swept_entries 3 point ≡ entry "+01" "1." ∷ entry "+12" "20" ∷ entry "+23" ".1" ∷ []

abbrev pub K3-faces : Type 0
K3-faces = boundary_cells (faces_of_swept 3 point) ≡ spelled "-0" ∷ spelled "+3" ∷ []

abbrev pub K4 : Type 0
K4 = ascending (spelled "+210") ≡ spelled "-012"

abbrev pub K5-cells : Type 0
K5-cells = swept_entries 1 segment ≡ entry "+012" "1.." ∷ entry "-123" "..0" ∷ []

abbrev pub K5-faces : Type 0
K5-faces = boundary_cells (faces_of_swept 1 segment) ≡ spelled "-02" ∷ spelled "+01" ∷ spelled "-23" ∷ spelled "+13" ∷ []

-- 0.0625, -0.0625 and -0.0001 by their bits
abbrev pub K6 : Type 0
K6 =
    (coordinate (of_bits binary64 0x3fb0000000000000) ≡ ascii "0.062")
    × (coordinate (of_bits binary64 0xbfb0000000000000) ≡ ascii "-0.062")
    × (coordinate (of_bits binary64 0xbf1a36e2eb1c432d) ≡ ascii "0.000")

abbrev pub K7 : Type 0
K7 = (side_pair 2 0 0 ≡ side 1 2) × (side_pair 2 0 1 ≡ side 2 1)

abbrev pub K8 : Type 0
K8 = (sweep_outcome (swept 3 k8_solid) ≡ accepted 420) × (wing_at (swept_entries 3 k8_solid) 4 0 ≡ 10) × (wing_at (swept_entries 3 k8_solid) 10 5 ≡ 4)

abbrev pub K9 : Type 0
K9 =
    (sweep_outcome (swept 1 (point_among 2048)) ≡ accepted 6) × (sweep_outcome (swept 2 (point_among 1366)) ≡ refused 12)
    × (move_outcome k9_most ≡ accepted 4096) × (move_outcome k9_over ≡ refused 12)

abbrev pub K10 : Type 0
K10 = wing_outcome (to_wing (list_of 2 4 (spelled "+012" ∷ spelled "+123" ∷ []))) ≡ refused 11

-- all of them
pub record MarkedKeys : Type 0 where
  pub k1 : K1
  pub k2_cells : K2-cells
  pub k2_faces : K2-faces
  pub k2_calls : K2_calls
  pub k3_cells : K3-cells
  pub k3_faces : K3-faces
  pub k4 : K4
  pub k5_cells : K5-cells
  pub k5_faces : K5-faces
  pub k6 : K6
  pub k7 : K7
  pub k8 : K8
  pub k9 : K9
  pub k10 : K10
