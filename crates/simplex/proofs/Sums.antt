-- Sums over signed cells. An equation between whole coefficients, x⁺ - x⁻ ≡ y⁺ - y⁻, is stated as x⁺ + y⁻ ≡ y⁺ + x⁻.
--   Functional            a number for each sign and row; its value at a row is that at plus less that at minus
--   sum_chain f b cs       its sum over a list of cells: b true is the column of pluses, b false that of minuses
--   sum_faces f b w        its sum over the signed faces of a row
--   plus_on w              the functional that counts the plus cells on a row
use mathlib.Core.Path.{◌≡◌, refl, ap, ◌∙◌}
use mathlib.Core.Bool.{Bool, not, ◌&&◌}
use mathlib.Core.List.{List, [], ◌∷◌, ◌++◌, map}
use Prim.Native.Nat.{ℕ, ◌+◌}
use native.Mathlib.Omega.{arith}
use Rattle.simplex.specs.Cell.{Cell, Row, one, same_row, times}
use Rattle.simplex.specs.Faces.{all_faces, faces, prefixed}
use Rattle.simplex.proofs.Signs.{times_not, times_not_r}

-- Fun: a signed functional on rows, its value being f true − f false
abbrev pub Functional : Type 0
Functional = Bool → Row → ℕ

abbrev pub sum_faces : Functional → Bool → Row → ℕ
sum_faces f b [] = 0
sum_faces f b (x ∷ w) = f b w + sum_faces (λ c y. f c (x ∷ y)) (not b) w

abbrev pub sum_chain : Functional → Bool → List Cell → ℕ
sum_chain f b [] = 0
sum_chain f b (c ∷ cs) = f (times c.sign b) c.row + sum_chain f b cs

pub sum_chain_append : (f : Functional) (b : Bool) (xs ys : List Cell) → sum_chain f b (xs ++ ys) ≡ sum_chain f b xs + sum_chain f b ys
sum_chain_append f b [] ys = omega arith
sum_chain_append f b (c ∷ xs) ys = omega (arith, sum_chain_append f b xs ys)

pub sum_chain_add : (f g : Functional) (b : Bool) (cs : List Cell) → sum_chain (λ c y. f c y + g c y) b cs ≡ sum_chain f b cs + sum_chain g b cs
sum_chain_add f g b [] = refl
sum_chain_add f g b (c ∷ cs) = omega (arith, sum_chain_add f g b cs)

sum_chain_front : (f : Functional) (b : Bool) (x : ℕ) (cs : List Cell) → sum_chain f b (map (prefixed x) cs) ≡ sum_chain (λ c y. f c (x ∷ y)) b cs
sum_chain_front f b x [] = refl
sum_chain_front f b x (c ∷ cs) = omega (arith, sum_chain_front f b x cs)

pub sum_chain_faces : (f : Functional) (s : Bool) (m : ℕ) (b : Bool) (v : Row) → sum_chain f b (faces s m v) ≡ sum_faces f (times s b) v
sum_chain_faces f s m b [] = refl
sum_chain_faces f s m b (x ∷ w) =
    ap (λ n. f (times s b) w + n) (sum_chain_front f b x (faces (not s) m w)
    ∙ sum_chain_faces (λ c y. f c (x ∷ y)) (not s) m b w ∙ ap (λ c. sum_faces (λ c y. f c (x ∷ y)) c w) (times_not s b))

pub sum_chain_all_faces : (f : Functional) (b : Bool) (cs : List Cell) → sum_chain f b (all_faces cs) ≡ sum_chain (sum_faces f) b cs
sum_chain_all_faces f b [] = refl
sum_chain_all_faces f b (c ∷ cs) =
    omega (
      arith,
      sum_chain_append f b (faces c.sign c.material c.row) (all_faces cs),
      sum_chain_faces f c.sign c.material b c.row,
      sum_chain_all_faces f b cs,
    )

pub sum_chain_not : (f : Functional) (b : Bool) (cs : List Cell) → sum_chain (λ c y. f (not c) y) b cs ≡ sum_chain f (not b) cs
sum_chain_not f b [] = refl
sum_chain_not f b (c ∷ cs) = rw (times_not_r c.sign b) (omega (arith, sum_chain_not f b cs))

abbrev pub plus_on : Row → Functional
plus_on w c y = one (c && same_row y w)

pub sum_chain_zero : (b : Bool) (cs : List Cell) → sum_chain (λ c y. 0) b cs ≡ 0
sum_chain_zero b [] = refl
sum_chain_zero b (c ∷ cs) = omega (arith, sum_chain_zero b cs)
