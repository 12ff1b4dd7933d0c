-- `nearest::thousandths_of` meets its contract: a field below 1012 gives 0, else the float is m / 2^k with k from 33 to 63. Assumes nothing.
use mathlib.Core.Path.{◌≡◌, sym, ap, ◌∙◌}
use Prim.Native.Nat.{ℕ, suc, ◌+◌, ◌-◌, ◌*◌, ◌/◌, ◌%◌, ◌^◌, ◌≤◌, ◌<◌}
use native.Mathlib.Nat.{pow-suc, mod-eq_of_lt}
use native.Mathlib.Omega.{arith}
use lib.Pow.{pow_pos, pow_mono}
use lib.Ieee.{Float, binary64, to_bits}
use lib.Ieee.Nearest.{closest}
use Rattle.points.proofs.Finite.{range_no_nan}
use Rattle.printing.proofs.HalfEven.{half_added}
use Rattle.printing.proofs.Fractions.{thousandths_zero, field_in_range, thousandths_shifted, digits_of, field_of}
use Rattle.printing.proofs.nearest.thousandths_of.Goals as goal
use Rattle.printing.proofs.nearest.thousandths_of.Goals.{Else-field-lt1012}

-- the field of the exponent is at most 1042
in_range_lem : (c : Else-field-lt1012) → field_of c.args.x < 1043
in_range_lem c = field_in_range c.args.x c.well_formed.0.1 c.requires c.if-field-lt1012.false

-- half a unit as the code has it: it is below 2^63, and twice it is the unit
module _ (y : ℕ) where
  abbrev half : ℕ
  half = 1 * 2 ^ (1075 - y - 1) % 18446744073709551616

  power_below : 1012 ≤ y → 2 ^ (1075 - y - 1) ≤ 4611686018427387904
  power_below l = pow_mono {j = 62} (omega arith)

  half_is : 1012 ≤ y → half ≡ 2 ^ (1075 - y - 1)
  half_is l = let low = power_below l in mod-eq_of_lt (omega (arith, low)) ∙ omega arith

  half-below : 1012 ≤ y → half ≤ 4611686018427387904
  half-below l = omega (arith, power_below l, half_is l)

  half-positive : 1012 ≤ y → 0 < half
  half-positive l = let some : 0 < 2 ^ (1075 - y - 1) = pow_pos (1075 - y - 1) in omega (arith, half_is l)

  unit-is : 1012 ≤ y → y < 1043 → 2 ^ (1075 - y) ≡ 2 * half
  unit-is l h =
      let k = 1075 - y - 1 in
      let next : 1075 - y ≡ suc k = omega arith in
      ap (λ (z : ℕ). 2 ^ z) next ∙ pow-suc 2 k ∙ omega (arith, half_is l)

-- the number that is rounded, as the code has it
module _ (x : Float) where
  abbrev scaled : ℕ
  scaled = 1000 * (4503599627370496 + to_bits binary64 x % 9223372036854775808 % 4503599627370496)

  scaled-is : scaled ≡ 1000 * (4503599627370496 + digits_of x)
  scaled-is = omega arith

pub float_to_bits-b : goal.float_to_bits-b
float_to_bits-b c = range_no_nan c.args.x c.requires

pub returns-then-field-lt1012 : goal.returns-then-field-lt1012
returns-then-field-lt1012 c = thousandths_zero c.args.x c.well_formed.0.1 c.requires c.if-field-lt1012.true

pub overflow_sub-k : goal.overflow_sub-k
overflow_sub-k c = omega (arith, in_range_lem c)

pub overflow_sub-half : goal.overflow_sub-half
overflow_sub-half c = omega (arith, in_range_lem c)

pub overflow_add-result : goal.overflow_add-result
overflow_add-result c = omega (arith, half-below (field_of c.args.x) c.if-field-lt1012.false)

pub overflow_sub-result : goal.overflow_sub-result
overflow_sub-result c = omega (arith, half-positive (field_of c.args.x) c.if-field-lt1012.false)

pub overflow_add-result-2 : goal.overflow_add-result-2
overflow_add-result-2 c = omega (arith, half-below (field_of c.args.x) c.if-field-lt1012.false)

pub returns : goal.returns
returns c =
    let x = c.args.x in
    let y = field_of x in
    let a = scaled x in
    let unit = unit-is y c.if-field-lt1012.false (in_range_lem c) in
    ap (λ (u : ℕ). (a + half y - 1 + a / u % 2) / u) unit
    ∙ half_added a (half y) (half-positive y c.if-field-lt1012.false)
    ∙ ap (λ (u : ℕ). closest a u) (sym unit)
    ∙ ap (λ (z : ℕ). closest z (2 ^ (1075 - y))) (scaled-is x)
    ∙ thousandths_shifted x c.well_formed.0.1 c.requires c.if-field-lt1012.false
