-- A list that begins with a mark, as the library tests it and as the definition does. Assumes nothing.
use mathlib.Core.Path.{◌≡◌, refl, ap₂}
use mathlib.Core.Bool.{◌&&◌}
use mathlib.Core.List.{List, [], ◌∷◌}
use Prim.Native.Nat.{ℕ}
use native.Mathlib.Omega.{arith}
use lib.Dec.{eqb}
use lib.Pointwise.{pointwise}
use Rattle.std.proofs.lemmas.Bool.Decides.{nat_tests}
use Rattle.simplex.specs.Cell.{same_row}

eqb_turned : (x y : ℕ) → eqb x y ≡ eqb y x
eqb_turned x y = grind (arith, nat_tests)

pub same_as_row : (m b : List ℕ) → pointwise eqb m b ≡ same_row b m
same_as_row [] [] = refl
same_as_row [] (y ∷ b) = refl
same_as_row (x ∷ m) [] = refl
same_as_row (x ∷ m) (y ∷ b) = ap₂ ◌&&◌ (eqb_turned x y) (same_as_row m b)
