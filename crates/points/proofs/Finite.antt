-- A float in range is a number.
--   nan_out, inf_out      neither a NaN nor an infinity is in range
--   range_no_nan          what is in range is no NaN
-- Assumes nothing.
use mathlib.Core.Path.{◌≡◌, refl, sym, ◌∙◌}
use mathlib.Core.Bool.{Bool, true, false, not, true≢false}
use lib.Dec.{T}
use lib.Count.{count_trailing_zeros}
use lib.Ieee.{Float, nan, inf, fin, of_bits, of_fields, odd, neg, lt, is_nan}
use Rattle.points.specs.Step.{in_range}

pub nan_out : in_range nan ≡ false
unfolding in_range of_bits of_fields odd count_trailing_zeros neg lt
nan_out = refl

pub inf_out : (s : Bool) → in_range (inf s) ≡ false
unfolding in_range of_bits of_fields odd count_trailing_zeros neg lt
inf_out true = refl
inf_out false = refl

pub range_no_nan : (x : Float) → in_range x ≡ true → T (not (is_nan x))
unfolding is_nan
range_no_nan nan e = absurd (true≢false (sym e ∙ nan_out))
range_no_nan (inf s) e = tt
range_no_nan (fin s m k) e = tt
