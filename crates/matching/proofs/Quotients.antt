-- Keys counted by cell, and the cell of a key by a product.
use mathlib.Core.Path.{◌≡◌, ap, subst, ◌∙◌}
use Prim.Native.Nat.{ℕ, ◌+◌, ◌*◌, ◌/◌, ◌%◌, ◌^◌, ◌≤◌, ◌<◌}
use native.Mathlib.Nat.{mul-add, add-mul, mul_assoc, mul_comm, suc-mul, one-mul, mul-one, add-zero, lt_of_le_of_lt, mul-le-mul, mul-le-mul_left}
use native.Mathlib.Nat.{mul-le-mul_right, le_of_lt, mod-lt, mod-eq_of_lt, div-eq_of_lt, div-add-mod', div-le_self, div-eq_of_lt-le, mul-add-div_right}
use native.Mathlib.Nat.{mul-add-mod_self_right}
use native.Mathlib.Omega.{arith}
use lib.Dec.{lit<}

-- n is cut into w parts of q, with r left; of a number below q, the product with q + 1 by n is the quotient by w
module _ (n q r c a w : ℕ) (cut : q * w + r ≡ n) (rest : r < w) (at : a < w) (few : c * w + a < q) where
  product : (c * w + a) * (q + 1) ≡ c * (q * w) + a * q + (c * w + a)
  product =
      omega (arith, mul-add (c * w + a) q 1, mul-one (c * w + a), add-mul (c * w) a q, mul_assoc c w q, ap (λ t. c * t) (mul_comm w q))

  whole : c * n ≡ c * (q * w) + c * r
  whole = omega (arith, ap (λ t. c * t) cut, mul-add c (q * w) r)

  lower : c * n ≤ (c * w + a) * (q + 1)
  lower = omega (arith, product, whole, mul-le-mul_left c (le_of_lt rest))

  upper : (c * w + a) * (q + 1) < (c + 1) * n
  upper = omega (arith, product, whole, add-mul c 1 n, one-mul n, mul-le-mul_right q at, suc-mul a q, mul_comm w q)

  pub by_part : (c * w + a) * (q + 1) / n ≡ c
  by_part = div-eq_of_lt-le n lower upper

module _ (f w : ℕ) (l : f < 32768) (pos : 0 < w) (most : w ≤ 8) where
  -- a part of 1048576 cut into w
  part-long : f < 1048576 / w
  part-long = omega (arith, div-add-mod' 1048576 w, mod-lt 1048576 pos, mul-le-mul_left (1048576 / w) most)

  pub cell_by_part : f * (1048576 / w + 1) / 1048576 ≡ f / w
  cell_by_part =
      let e = div-add-mod' f w in
      subst (λ (g : ℕ). g * (1048576 / w + 1) / 1048576 ≡ f / w) e
      (by_part 1048576 (1048576 / w) (1048576 % w) (f / w) (f % w) w (div-add-mod' 1048576 w) (mod-lt 1048576 pos) (mod-lt f pos)
      (omega (arith, part-long, e)))

  pub part_fits : f * (1048576 / w + 1) < 2 ^ 64
  part_fits = lt_of_le_of_lt (mul-le-mul {n₂ = 32768} {m₂ = 1048577} (omega arith) (omega (arith, div-le_self 1048576 w))) (lit< tt)

-- key i of cell p
module _ (p i w : ℕ) (h : i < w) where
  pub cell_of_key : (p * w + i) / w ≡ p
  cell_of_key = mul-add-div_right (omega arith) p i ∙ ap (λ (x : ℕ). p + x) (div-eq_of_lt h) ∙ add-zero p

  pub place_of_key : (p * w + i) % w ≡ i
  place_of_key = mul-add-mod_self_right p w i ∙ mod-eq_of_lt h
