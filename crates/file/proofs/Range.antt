-- Floats by their bits, and the range.
--   field_out             an exponent field of all ones is in no range
--   field_no_nan          any other is no NaN's
--   bits_no_nan           bits in range are no NaN's
-- Assumes nothing.
use mathlib.Core.Path.{◌≡◌, ap, ◌∙◌, subst⁻¹}
use mathlib.Core.Bool.{Bool, true, false, not, cond, ◌&&◌}
use Prim.Native.Nat.{ℕ, ◌%◌, ◌/◌}
use lib.Dec.{T, eqb, leb}
use lib.Ieee.{nan, inf, binary64, of_bits, of_fields, nan_bits}
use lib.Ieee.Bits.{nan_bits_is}
use borrow.Author.Tests.{ne_eqb}
use Rattle.points.specs.Step.{in_range}
use Rattle.points.proofs.Finite.{nan_out, inf_out, range_no_nan}

not_finite : (s t : Bool) → in_range (cond t (inf s) nan) ≡ false
not_finite s true = inf_out s
not_finite s false = nan_out

pub field_out : (n : ℕ) → n % 9223372036854775808 / 4503599627370496 ≡ 2047 → in_range (of_bits binary64 n) ≡ false
unfolding of_bits of_fields
field_out n e =
    ap (λ x. in_range (of_fields binary64 (leb 9223372036854775808 n) x (n % 4503599627370496))) e
    ∙ not_finite (leb 9223372036854775808 n) (eqb (n % 4503599627370496) 0)

pub field_no_nan : (n : ℕ) → (n % 9223372036854775808 / 4503599627370496 ≡ 2047 → ⊥) → T (not (nan_bits binary64 n))
unfolding nan_bits
field_no_nan n h = subst⁻¹ (λ (b : Bool). T (not (b && not (eqb (n % 4503599627370496) 0)))) (ne_eqb _ 2047 h) tt

pub bits_no_nan : (n : ℕ) → in_range (of_bits binary64 n) ≡ true → T (not (nan_bits binary64 n))
bits_no_nan n e = subst⁻¹ (λ (t : Bool). T (not t)) (nan_bits_is binary64 n) (range_no_nan (of_bits binary64 n) e)
