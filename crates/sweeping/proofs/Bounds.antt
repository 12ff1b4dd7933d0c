-- Numbers of swept cells and vertices are small.
--   number-inside         the number of a swept cell is below their count
--   vertex-inside         a vertex at a level up to h is below the swept vertex count
-- Assumes nothing.
use Rattle.std.proofs.Common.{ℕ, suc, ◌+◌, ◌*◌, ◌<◌, ◌≤◌, mul-le-mul_right, suc-mul, arith}
use Rattle.rules.specs.Limits.{swept_vertices}
use Rattle.prism.specs.Cells.{at_level}
use Rattle.prism.specs.Swept.{swept_cells}
use Rattle.prism.specs.Wings.{cell_number}
use Rattle.records.proofs.Parts.{inside}

module _ (d s h i p k : ℕ) (hi : i < h) (hp : p < s) (hk : k ≤ d) where
  pub number-inside : cell_number d s i p k < swept_cells d s h
  number-inside =
      let here : p * suc d + k < s * suc d = inside s (suc d) p k hp (omega arith) in
      omega (arith, inside h (s * suc d) i (p * suc d + k) hi here)

pub vertex-inside : (v h i x : ℕ) → i ≤ h → x < v → at_level v i x < swept_vertices v h
vertex-inside v h i x hi hx = omega (arith, suc-mul h v, mul-le-mul_right {m = i} {n = h} v hi)
