-- The marked keys hold: both sides of each are computed, but for the points of K9: there the rules of move are taken one by one.
use mathlib.Core.Path.{◌≡◌, refl, ap}
use mathlib.Core.Bool.{true}
use lib.Dec.{ltb}
use lib.Ieee.{add, binary64, eq, lt, of_bits}
use Rattle.rules.specs.Limits.{max_vertices, swept_vertices}
use Rattle.rules.specs.Calls.{accepted, refused}
use Rattle.points.specs.Step.{in_range}
use Rattle.motion.specs.Move.{move_outcome}
use Rattle.theorems.specs.MarkedKeys.{k9_most, k9_over, K1, K2-cells, K2-faces, K2_calls, K3-cells, K3-faces, K4, K5-cells, K5-faces, K6, K7, K8}
use Rattle.theorems.specs.MarkedKeys.{K9, K10, MarkedKeys}
use Rattle.theorems.specs.Shorthand.{one}
use Rattle.theorems.proofs.Computing.{computing}
use Rattle.theorems.proofs.Sliding.{slid-accepted, slid-refused}

-- 0.0, 1.0 and their sum
in_range_lem : (in_range (of_bits binary64 0) ≡ true) × (in_range one ≡ true) × (in_range (add binary64 (of_bits binary64 0) one) ≡ true)
unfolding computing
in_range_lem = (refl, refl, refl)

-- 0.0 equals itself, and the sum is above it
rising : let x = of_bits binary64 0 in (eq x x ≡ true) × (lt x (add binary64 x one) ≡ true)
unfolding computing
rising = (refl, refl)

-- row 12 counts 4,096 vertices, and more than 4,096
just_fits : swept_vertices k9_most.v k9_most.h ≡ 4096
just_fits = refl

too_many : ltb max_vertices (swept_vertices k9_over.v k9_over.h) ≡ true
too_many = refl

accepted-most : move_outcome k9_most ≡ accepted 4096
accepted-most = slid-accepted _ _ _ _ refl (ap (ltb max_vertices) just_fits) refl in_range_lem.0 in_range_lem.1 in_range_lem.2 rising.0 rising.1

refused_over : move_outcome k9_over ≡ refused 12
refused_over = slid-refused _ _ _ _ _ refl refl too_many in_range_lem.0 in_range_lem.1

k1 : K1
unfolding computing
k1 = refl

k2_cells : K2-cells
unfolding computing
k2_cells = refl

k2_faces : K2-faces
unfolding computing
k2_faces = refl

k2_calls : K2_calls
unfolding computing
k2_calls = (refl, refl, refl)

k3_cells : K3-cells
unfolding computing
k3_cells = refl

k3_faces : K3-faces
unfolding computing
k3_faces = refl

k4 : K4
unfolding computing
k4 = refl

k5_cells : K5-cells
unfolding computing
k5_cells = refl

k5_faces : K5-faces
unfolding computing
k5_faces = refl

k6 : K6
unfolding computing
k6 = (refl, refl, refl)

k7 : K7
unfolding computing
k7 = (refl, refl)

k8 : K8
unfolding computing
k8 = (refl, refl, refl)

k9 : K9
unfolding computing
k9 = (refl, refl, accepted-most, refused_over)

k10 : K10
unfolding computing
k10 = refl

pub marked_keys : MarkedKeys
marked_keys =
    record {
      k1 = k1;
      k2_cells = k2_cells;
      k2_faces = k2_faces;
      k2_calls = k2_calls;
      k3_cells = k3_cells;
      k3_faces = k3_faces;
      k4 = k4;
      k5_cells = k5_cells;
      k5_faces = k5_faces;
      k6 = k6;
      k7 = k7;
      k8 = k8;
      k9 = k9;
      k10 = k10;
    }
