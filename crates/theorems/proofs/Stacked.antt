-- The stacked levels are as stated: both sides are computed.
use mathlib.Core.Path.{refl}
use Prim.Native.Nat.{◌≤◌}
use native.Mathlib.Omega.{arith}
use Rattle.simplex.specs.Cell.{Row}
use Rattle.simplex.specs.Chain.{total}
use Rattle.boundary.specs.Boundary.{boundary_of}
use Rattle.theorems.specs.Stacked.{Stacked, apart, first, between}
use Rattle.theorems.proofs.Computing.{computing}

-- the face between the levels stands twice in both
twice_in_both : (((w : Row) → total w (boundary_of apart) ≤ 1) → ⊥) × (((w : Row) → total w (boundary_of first) ≤ 1) → ⊥)
unfolding computing
twice_in_both = ((λ few. let z : 2 ≤ 1 = few between in omega arith), (λ few. let z : 2 ≤ 1 = few between in omega arith))

pub stacked-levels : Stacked
unfolding computing
stacked-levels =
    record {
      none = (refl, refl, refl);
      between-twice = refl;
      each-sign = (refl, refl);
      inner-twice = (refl, refl);
      sums = (refl, refl);
      not_distinct = twice_in_both;
      unsound = (refl, refl);
    }
