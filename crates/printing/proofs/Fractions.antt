-- A float in range as a fraction, by its bits: m 2^x / 2^1074, with m and x from the fields of the exponent and the digits.
--   thousandths_zero      a field below 1012: less than half a thousandth
--   thousandths_shifted   else the field is at most 1042, and with k = 1075 - field the float is m / 2^k
--   negative_bits         the sign is the highest bit
-- Assumes nothing.
use mathlib.Core.Path.{◌≡◌, refl, sym, ap, ◌∙◌, subst}
use mathlib.Core.Bool.{Bool, true, false, cond, ◌&&◌, true≢false}
use Prim.Native.Nat.{ℕ, zero, suc, ◌+◌, ◌-◌, ◌*◌, ◌/◌, ◌%◌, ◌^◌, ◌≤◌, ◌<◌}
use native.Mathlib.Nat.{mul_assoc, mul_right_comm, mul-lt-mul_of_pos_right, lt_of_mul-lt-mul_right, lt_of_le_of_lt, mul-le-mul_right}
use native.Mathlib.Nat.{not-le_of_lt, mod-eq_of_lt, div-eq_of_lt}
use native.Mathlib.Omega.{arith}
use native.Mathlib.Decide.{dec_lt}
use lib.IntN.{ℤ, pos}
use lib.Dec.{T, leb, ltb, eqb}
use lib.Pow.{pow-add, pow_pos, pow_mono}
use lib.Count.{count_trailing_zeros}
use lib.Ieee.{Float, nan, inf, fin, binary64, up, down, odd, lt, neg, fits, of_fields, of_bits, to_bits}
use lib.Ieee.Bits.{of_bits-to_bits}
use lib.Ieee.Exact.{HasValue, odd_sign}
use lib.Ieee.Fits.{down_pos}
use lib.Ieee.Nearest.{closest, closest_same}
use borrow.Author.Tests.{ltb-true}
use Rattle.rules.proofs.Tests.{and_parts}
use Rattle.points.specs.Step.{magnitude_limit, in_range}
use Rattle.points.proofs.Finite.{nan_out, inf_out}
use Rattle.printing.specs.Decimal.{thousandths, negative}
use Rattle.printing.proofs.HalfEven.{closest_down}

limit_is : magnitude_limit ≡ fin false 1 (pos 20)
unfolding of_bits of_fields odd count_trailing_zeros
limit_is = refl

-- the two tests of the range
between : Float → Bool
between x = lt (neg (fin false 1 (pos 20))) x && lt x (fin false 1 (pos 20))

range_is : (x : Float) → in_range x ≡ true → between x ≡ true
unfolding in_range between
range_is x h = rw limit_is at h

range_below : (s : Bool) (m : ℕ) (e : ℤ) → in_range (fin s m e) ≡ true → m * up e < 1048576 * down e
unfolding between lt neg
range_below true m e h =
    let p = and_parts (ltb (m * up e * 1) (1 * 1048576 * down e)) (lt (fin true m e) (fin false 1 (pos 20))) (range_is (fin true m e) h) in
    omega (arith, ltb-true (m * up e * 1) (1 * 1048576 * down e) p.0)
range_below false m e h =
    let p = and_parts (lt (neg (fin false 1 (pos 20))) (fin false m e)) (ltb (m * up e * 1) (1 * 1048576 * down e)) (range_is (fin false m e) h) in
    omega (arith, ltb-true (m * up e * 1) (1 * 1048576 * down e) p.1)

-- the mantissa and the exponent of two fields: a field of 0 has no leading digit
mant : ℕ → ℕ → ℕ
mant zero t = t
mant (suc x) t = 4503599627370496 + t

expo : ℕ → ℕ
expo zero = 0
expo (suc x) = x

number_or_not : (s b z : Bool) (v : Float) (a c : ℕ) → HasValue v s a c → in_range (cond b (cond z (inf s) nan) v) ≡ true →
    HasValue (cond b (cond z (inf s) nan) v) s a c
number_or_not s true true v a c h r = absurd (true≢false (sym r ∙ inf_out s))
number_or_not s true false v a c h r = absurd (true≢false (sym r ∙ nan_out))
number_or_not s false z v a c h r = h

fields_value : (s : Bool) (y t : ℕ) → in_range (of_fields binary64 s y t) ≡ true →
    HasValue (of_fields binary64 s y t) s (mant y t * 2 ^ expo y) (2 ^ 1074)
unfolding of_fields mant expo
fields_value s zero t r = odd_sign 53 s t 0 1074
fields_value s (suc x) t r =
    number_or_not s (eqb (suc x) 2047) (eqb t 0) (odd 53 s (4503599627370496 + t) x 1074)
    ((4503599627370496 + t) * 2 ^ x) (2 ^ 1074) (odd_sign 53 s (4503599627370496 + t) x 1074) r

-- thousandths by any fraction of the same value
by_value : (x : Float) (s : Bool) (a c : ℕ) → 0 < c → HasValue x s a c → thousandths x ≡ closest (1000 * a) c
unfolding thousandths
by_value nan s a c p h = absurd h
by_value (inf t) s a c p h = absurd h
by_value (fin t m e) s a c p h =
    let n = m * up e in
    closest_same (1000 * n) (down e) (1000 * a) c (down_pos e) p (omega (arith, mul_assoc 1000 n c, mul_assoc 1000 a (down e), h.1))

value_below : (x : Float) (s : Bool) (a c : ℕ) → 0 < c → in_range x ≡ true → HasValue x s a c → a < 1048576 * c
value_below nan s a c p r h = absurd h
value_below (inf t) s a c p r h = absurd h
value_below (fin t m e) s a c p r h =
    let d = down e in
    let less : m * up e * c < 1048576 * d * c = mul-lt-mul_of_pos_right (range_below t m e r) p in
    lt_of_mul-lt-mul_right d (omega (arith, less, h.1, mul_right_comm 1048576 d c))

-- a common power of two goes out of the fraction
shifted : (m x k : ℕ) → closest (1000 * (m * 2 ^ x)) (2 ^ (k + x)) ≡ closest (1000 * m) (2 ^ k)
shifted m x k =
    let same : 1000 * (m * 2 ^ x) * 2 ^ k ≡ 1000 * m * 2 ^ (k + x) =
    ap (λ (z : ℕ). z * 2 ^ k) (sym (mul_assoc 1000 m (2 ^ x)))
    ∙ mul_right_comm (1000 * m) (2 ^ x) (2 ^ k)
    ∙ mul_assoc (1000 * m) (2 ^ k) (2 ^ x)
    ∙ ap (λ (z : ℕ). 1000 * m * z) (sym (pow-add 2 k x)) in
    closest_same (1000 * (m * 2 ^ x)) (2 ^ (k + x)) (1000 * m) (2 ^ k) (pow_pos (k + x)) (pow_pos k) same

-- less than half a thousandth
tiny : (m j : ℕ) → 2000 * m < 18446744073709551616 → closest (1000 * m) (2 ^ (64 + j)) ≡ 0
tiny m j h =
    let u = 2 ^ (64 + j) in
    let high : 2 ^ 64 ≤ u = pow_mono {i = 64} {j = 64 + j} (omega arith) in
    let rest : 1000 * m % u ≡ 1000 * m = mod-eq_of_lt (omega arith) in
    closest_down (1000 * m) u (omega arith) ∙ div-eq_of_lt (omega arith)

mant_below : (y t : ℕ) → t < 4503599627370496 → 2000 * mant y t < 18446744073709551616
unfolding mant
mant_below zero t h = omega arith
mant_below (suc x) t h = omega arith

expo_below : (y : ℕ) → y < 1012 → expo y ≤ 1010
unfolding expo
expo_below zero h = omega arith
expo_below (suc x) h = omega arith

-- both laws, of the fields y and t
fields_zero : (s : Bool) (y t : ℕ) → t < 4503599627370496 → y < 1012 → in_range (of_fields binary64 s y t) ≡ true →
    thousandths (of_fields binary64 s y t) ≡ 0
fields_zero s y t h l r =
    let x = expo y in
    let lx = expo_below y l in
    let whole : 1074 ≡ 64 + (1010 - x) + x = omega arith in
    by_value (of_fields binary64 s y t) s (mant y t * 2 ^ x) (2 ^ 1074) (pow_pos 1074) (fields_value s y t r)
    ∙ ap (λ (k : ℕ). closest (1000 * (mant y t * 2 ^ x)) (2 ^ k)) whole
    ∙ shifted (mant y t) x (64 + (1010 - x))
    ∙ tiny (mant y t) (1010 - x) (mant_below y t h)

-- a power below another has the lower exponent
power_below : (a b : ℕ) → 2 ^ a < 2 ^ b → Dec (a < b) → a < b
power_below a b h (yes p) = p
power_below a b h (no p) = absurd (not-le_of_lt h (pow_mono (omega arith)))

field_below : (s : Bool) (x t : ℕ) → in_range (of_fields binary64 s (suc x) t) ≡ true → x < 1042
unfolding mant expo
field_below s x t r =
    let m = 4503599627370496 + t in
    let v : m * 2 ^ x < 1048576 * 2 ^ 1074 =
    value_below (of_fields binary64 s (suc x) t) s (m * 2 ^ x) (2 ^ 1074) (pow_pos 1074) r (fields_value s (suc x) t r) in
    let low : 2 ^ (52 + x) ≤ m * 2 ^ x = subst (λ (z : ℕ). z ≤ m * 2 ^ x) (sym (pow-add 2 52 x)) (mul-le-mul_right (2 ^ x) (omega arith)) in
    let high : 1048576 * 2 ^ 1074 ≡ 2 ^ 1094 = sym (pow-add 2 20 1074) in
    let b = power_below (52 + x) 1094 (subst (λ (z : ℕ). 2 ^ (52 + x) < z) high (lt_of_le_of_lt low v)) (dec_lt (52 + x) 1094) in
    omega arith

fields_shifted : (s : Bool) (y t : ℕ) → 1012 ≤ y → in_range (of_fields binary64 s y t) ≡ true →
    (y < 1043) × (thousandths (of_fields binary64 s y t) ≡ closest (1000 * (4503599627370496 + t)) (2 ^ (1075 - y)))
unfolding mant expo
fields_shifted s zero t l r = absurd (omega arith)
fields_shifted s (suc x) t l r =
    let b = field_below s x t r in
    let m = 4503599627370496 + t in
    let whole : 1074 ≡ 1075 - suc x + x = omega arith in (
      omega arith,
      by_value (of_fields binary64 s (suc x) t) s (m * 2 ^ x) (2 ^ 1074) (pow_pos 1074) (fields_value s (suc x) t r)
          ∙ ap (λ (k : ℕ). closest (1000 * (m * 2 ^ x)) (2 ^ k)) whole
          ∙ shifted m x (1075 - suc x),
    )

value_sign : (x : Float) (s : Bool) (a c : ℕ) → HasValue x s a c → negative x ≡ s
value_sign nan s a c h = absurd h
value_sign (inf t) s a c h = absurd h
value_sign (fin t m e) s a c h = h.0

-- the same of a float's 64 bits: the digits are the lowest 52, the field is the 11 above
abbrev pub digits_of : Float → ℕ
digits_of x = to_bits binary64 x % 4503599627370496

abbrev pub field_of : Float → ℕ
field_of x = to_bits binary64 x % 9223372036854775808 / 4503599627370496

fields_of : (x : Float) → fits binary64 x ≡ true →
    x ≡ of_fields binary64 (leb 9223372036854775808 (to_bits binary64 x)) (field_of x) (digits_of x)
unfolding of_bits
fields_of x f = sym (of_bits-to_bits binary64 x (subst T (sym f) tt))

module _ (x : Float) (f : fits binary64 x ≡ true) (r : in_range x ≡ true) where
  sign_bit : Bool
  sign_bit = leb 9223372036854775808 (to_bits binary64 x)

  range_fields : in_range (of_fields binary64 sign_bit (field_of x) (digits_of x)) ≡ true
  unfolding sign_bit
  range_fields = sym (ap in_range (fields_of x f)) ∙ r

  pub thousandths_zero : field_of x < 1012 → 0 ≡ thousandths x
  unfolding sign_bit
  thousandths_zero l = sym (ap thousandths (fields_of x f) ∙ fields_zero sign_bit (field_of x) (digits_of x) (omega arith) l range_fields)

  pub field_in_range : 1012 ≤ field_of x → field_of x < 1043
  field_in_range l = (fields_shifted sign_bit (field_of x) (digits_of x) l range_fields).0

  pub thousandths_shifted : 1012 ≤ field_of x → closest (1000 * (4503599627370496 + digits_of x)) (2 ^ (1075 - field_of x)) ≡ thousandths x
  unfolding sign_bit
  thousandths_shifted l = sym (ap thousandths (fields_of x f) ∙ (fields_shifted sign_bit (field_of x) (digits_of x) l range_fields).1)

  pub negative_bits : leb 9223372036854775808 (to_bits binary64 x) ≡ negative x
  unfolding sign_bit
  negative_bits =
      sym
      (ap negative (fields_of x f)
      ∙ value_sign (of_fields binary64 sign_bit (field_of x) (digits_of x)) sign_bit _ _
      (fields_value sign_bit (field_of x) (digits_of x) range_fields))
