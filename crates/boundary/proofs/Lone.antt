-- A solid's own boundary: no two of its faces are on the same vertices, and as a sum it is that of all signed faces.
use mathlib.Core.Path.{◌≡◌, refl}
use mathlib.Core.Bool.{Bool, true, false, cond}
use mathlib.Core.List.{List}
use Prim.Native.Nat.{◌+◌, ◌≤◌}
use native.Mathlib.Omega.{arith}
use lib.Dec.{eqb}
use borrow.Author.Tests.{eqb-true}
use Rattle.simplex.specs.Cell.{Cell, Row}
use Rattle.simplex.specs.Chain.{total}
use Rattle.simplex.specs.Faces.{keep}
use Rattle.simplex.proofs.Cancel.{count-keep, lone_in, plus-minus}
use Rattle.simplex.proofs.Sums.{plus_on, sum_chain}

-- (3b)
pub lone_once : (F : List Cell) (w : Row) → total w (keep (λ c. lone_in F c.row) F) ≤ 1
lone_once F w =
    omega (
      arith,
      plus-minus w (keep (λ c. lone_in F c.row) F),
      plus-minus w F,
      count-keep (lone_in F) w true F,
      count-keep (lone_in F) w false F,
      go (lone_in F w) refl,
    )
  where
    go : (t : Bool) → eqb (total w F) 1 ≡ t → cond t (sum_chain (plus_on w) true F) 0 + cond t (sum_chain (plus_on w) false F) 0 ≤ 1
    go true e = omega (arith, eqb-true (total w F) 1 e, plus-minus w F)
    go false e = omega arith
