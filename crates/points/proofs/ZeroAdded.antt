-- Adding zero changes no value: x + 0 equals x, for every float of 64 bits but a NaN.
-- Assumes nothing.
use mathlib.Core.Path.{◌≡◌, refl, sym, ap, ◌∙◌}
use mathlib.Core.Bool.{Bool, true, false, beq, ◌&&◌, ◌||◌}
use Prim.Native.Nat.{ℕ, zero, suc, ◌+◌, ◌*◌, ◌-◌, ◌%◌, ◌^◌, ◌<◌, ◌≤◌}
use native.Mathlib.Nat.{mul-one, one-mul, add-zero, sub-zero, mul_comm, mul_assoc, mul_left_comm, mul_right_comm, mul-pos, zero-mul}
use native.Mathlib.Nat.{lt_of_not-le, not-le_of_lt, zero-lt-suc, eq_of_mul-eq-mul_right, lt_of_mul-lt-mul_right, mul-lt-mul_of_pos_right}
use native.Mathlib.Omega.{arith}
use lib.Dec.{T, eqb, leb, ltb, leb→le, ltb→lt}
use lib.IntN.{ℤ, pos, negsuc}
use lib.Pow.{pow-add, pow_pos, pow-lt}
use lib.Ieee.{Float, nan, inf, fin, binary64, emax, low, up, down, sum, round, add, eq, fits}
use lib.Ieee.Exact.{HasValue, round_exact}
use lib.Ieee.Fits.{up_pos, down_pos, and_l, and_r}
use borrow.Author.Tests.{eq-eqb, lt-ltb, le-ltb}
use Rattle.points.proofs.EqualSums.{zeros_equal, sum_zeros}

-- 2^e in units of 2^-l, of which it has a whole number
exponent : (k l : ℕ) → 2 ^ suc k ≤ 2 ^ l → suc k ≤ l
exponent k l h = lt_of_not-le (λ (g : l ≤ k). not-le_of_lt (pow-lt (omega (arith, g))) h)

in_units : (e : ℤ) (l : ℕ) → down e ≤ 2 ^ l → (j : ℕ) × (up e * 2 ^ l ≡ 2 ^ j * down e)
in_units (pos k) l h = (k + l, sym (mul-one (2 ^ (k + l)) ∙ pow-add 2 k l))
in_units (negsuc k) l h =
    (l - suc k, one-mul (2 ^ l) ∙ sym (sym (pow-add 2 (l - suc k) (suc k)) ∙ ap (λ (z : ℕ). 2 ^ z) (omega (arith, exponent k l h))))

-- a value of the format is rounded to itself, over whatever denominator it is written
module _ (s : Bool) (m : ℕ) (e : ℤ) (d : ℕ) (D : 0 < d) where
  same_value : (y : Float) → HasValue y s (m * up e * d) (down e * d) → eq (fin s m e) y ≡ true
  unfolding eq
  same_value nan h = absurd h
  same_value (inf t) h = absurd h
  same_value (fin t n g) h =
      rw (h.0, eq-eqb _ _ value) (and_sign s)
    where
      value : m * up e * down g ≡ n * up g * down e
      value =
          eq_of_mul-eq-mul_right d D (m * up e * down g) (n * up g * down e)
          (mul_right_comm (m * up e) (down g) d ∙ sym h.1 ∙ sym (mul_assoc (n * up g) (down e) d))

      and_sign : (s : Bool) → (true && (beq s s || eqb (m * up e * down g) 0)) ≡ true
      and_sign true = refl
      and_sign false = refl

-- with an odd significand, as the format has it
module _ (s : Bool) (q : ℕ) (e : ℤ) (d : ℕ) (D : 0 < d) (few : q < 2 ^ 53) (fine : down e ≤ 2 ^ low binary64)
    (small : q * up e < 2 ^ suc (emax binary64) * down e) where
  place : (j : ℕ) × (up e * 2 ^ low binary64 ≡ 2 ^ j * down e)
  place = in_units e (low binary64) fine

  whole : q * up e * d * 2 ^ low binary64 ≡ q * 2 ^ place.0 * (down e * d)
  whole =
      let l = 2 ^ low binary64 in
      let j = 2 ^ place.0 in
      let a : q * up e * d * l ≡ q * (up e * l) * d = simp (mul_assoc, mul_comm, mul_left_comm) in
      let b : q * (j * down e) * d ≡ q * j * (down e * d) = simp (mul_assoc, mul_comm, mul_left_comm) in
      a ∙ ap (λ (z : ℕ). q * z * d) place.1 ∙ b

  bounded : q * 2 ^ place.0 < 2 ^ (low binary64 + suc (emax binary64))
  bounded =
      let l = 2 ^ low binary64 in
      let j = 2 ^ place.0 in
      let a : q * j * down e ≡ q * up e * l = mul_assoc q j (down e) ∙ ap (λ (z : ℕ). q * z) (sym place.1) ∙ sym (mul_assoc q (up e) l) in
      let b : 2 ^ suc (emax binary64) * down e * l ≡ 2 ^ (low binary64 + suc (emax binary64)) * down e =
      mul_right_comm (2 ^ suc (emax binary64)) (down e) l
      ∙ ap (λ (z : ℕ). z * down e) (mul_comm (2 ^ suc (emax binary64)) l ∙ sym (pow-add 2 (low binary64) (suc (emax binary64)))) in
      lt_of_mul-lt-mul_right (down e) (rw (a, sym b) (mul-lt-mul_of_pos_right small (pow_pos (low binary64))))

  round_odd : HasValue (round binary64 s (q * up e * d) (down e * d)) s (q * up e * d) (down e * d)
  round_odd = round_exact binary64 s (q * up e * d) (down e * d) q place.0 (mul-pos (down_pos e) D) few bounded whole

-- a / c, which is not zero, and a zero of any sign
sum-nought : (s t : Bool) (a c : ℕ) → 0 < a → sum binary64 s a t 0 c ≡ round binary64 s a c
unfolding sum
sum-nought true true a c l = ap (λ (z : ℕ). round binary64 true z c) (add-zero a)
sum-nought false false a c l = ap (λ (z : ℕ). round binary64 false z c) (add-zero a)
sum-nought true false a c l = rw (le-ltb a 0 (omega arith), lt-ltb 0 a l, sub-zero a) refl
sum-nought false true a c l = rw (le-ltb a 0 (omega arith), sub-zero a) refl

pub zero_added : (x : Float) (t : Bool) (g : ℤ) → T (fits binary64 x) → eq x x ≡ true → eq x (add binary64 x (fin t 0 g)) ≡ true
unfolding add fits
zero_added nan t g h number = number
zero_added (inf s) t g h number = number
zero_added (fin s zero e) t g h number =
    let c = down e * down g in
    let none : 0 * up e * down g ≡ 0 = ap (λ (z : ℕ). z * down g) (zero-mul (up e)) ∙ zero-mul (down g) in
    let nought : 0 * up g * down e ≡ 0 = ap (λ (z : ℕ). z * down e) (zero-mul (up g)) ∙ zero-mul (down e) in
    let zeros = sum_zeros binary64 s t c (mul-pos (down_pos e) (down_pos g)) in
    rw (none, nought)
    (zeros_equal (fin s 0 e) (sum binary64 s 0 t 0 c) s zeros.0 1 c (zero-lt-suc 0) (mul-pos (down_pos e) (down_pos g))
    (refl, simp zero-mul) zeros.1)
zero_added (fin s (suc m) e) t g h number =
    let c = down e * down g in
    let a = suc m * up e * down g in
    let nought : 0 * up g * down e ≡ 0 = ap (λ (z : ℕ). z * down e) (zero-mul (up g)) ∙ zero-mul (down e) in
    let some : 0 < a = mul-pos (mul-pos (zero-lt-suc m) (up_pos e)) (down_pos g) in
    let small = and_r (eqb (suc m % 2) 1 && ltb (suc m) (2 ^ 53) && leb (down e) (2 ^ low binary64)) _ h in
    let parts = and_l (eqb (suc m % 2) 1 && ltb (suc m) (2 ^ 53) && leb (down e) (2 ^ low binary64)) _ h in
    let fine = and_r (eqb (suc m % 2) 1 && ltb (suc m) (2 ^ 53)) _ parts in
    let few = and_r (eqb (suc m % 2) 1) _ (and_l (eqb (suc m % 2) 1 && ltb (suc m) (2 ^ 53)) _ parts) in
    rw (nought, sum-nought s t a c some)
    (same_value s (suc m) e (down g) (down_pos g) _
    (round_odd s (suc m) e (down g) (down_pos g) (ltb→lt _ _ few) (leb→le _ _ fine) (ltb→lt _ _ small)))
