-- The printed coordinate.
--   minus_only            a minus sign stands only where the value is negative and not printed as zero,
--   minus-printed         and it stands there
--   no_minus_zero         what rounds to zero is printed 0.000
--   coordinate_value      its whole part and three decimals read back are the float's thousandths
-- Assumes nothing.
use mathlib.Core.Path.{◌≡◌, refl, ap, ◌∙◌}
use mathlib.Core.Bool.{Bool, true, false, cond, ◌&&◌, and-false}
use mathlib.Core.List.{List, [], ◌∷◌, ◌++◌}
use Prim.Native.Nat.{ℕ, ◌+◌, ◌*◌, ◌/◌, ◌%◌, ◌^◌, ◌≤◌, ◌<◌}
use native.Mathlib.Nat.{add-sub_cancel_left}
use native.Mathlib.Omega.{arith}
use lib.Dec.{leb, ltb}
use lib.ListN.{length}
use lib.Ieee.{Float}
use borrow.Author.Tests.{ne_eqb, lt-ltb, ltb-true, leb-true}
use Rattle.words.specs.Records.{all_of}
use Rattle.words.specs.Text.{ascii}
use Rattle.rules.proofs.Tests.{and_parts}
use Rattle.printing.specs.Decimal.{digits, thousandths, negative, minus_of, three_digits, coordinate}
use Rattle.printing.specs.Reading.{is_digit, value_of, unsigned, whole_part, decimals, in_thousandths}
use Rattle.printing.proofs.Digits.{digits_value, digits-some, digits_are_digits}

minus_test : (t : Bool) → cond t (ascii "-") [] ≡ ascii "-" → t ≡ true
minus_test true e = refl
minus_test false e = absurd (let z : 0 ≡ 1 = ap length e in omega arith)

pub minus_only : (x : Float) → minus_of x ≡ ascii "-" → (negative x ≡ true) × (0 < thousandths x)
minus_only x e =
    let positive = ltb 0 (thousandths x) in
    let parts = and_parts (negative x) positive (minus_test (negative x && positive) e) in
    (parts.0, ltb-true 0 (thousandths x) parts.1)

pub minus-printed : (x : Float) → negative x ≡ true → 0 < thousandths x → minus_of x ≡ ascii "-"
minus-printed x e h = rw (e, lt-ltb 0 (thousandths x) h)

no_minus_of : (x : Float) → thousandths x ≡ 0 → minus_of x ≡ []
no_minus_of x e = simp (e, and-false)

pub no_minus_zero : (x : Float) → thousandths x ≡ 0 → coordinate x ≡ ascii "0.000"
unfolding coordinate digits
no_minus_zero x e = rw (no_minus_of x e, e)

-- a digit is neither a minus nor a point
digit_from : (b : ℕ) → is_digit b ≡ true → 48 ≤ b
digit_from b e = leb-true 48 b (and_parts (leb 48 b) (leb b 57) e).0

whole_part_lem : (w f : List ℕ) → all_of is_digit w ≡ true → whole_part (w ++ 46 ∷ f) ≡ w
whole_part_lem [] f e = refl
whole_part_lem (b ∷ w) f e =
    let parts = and_parts (is_digit b) (all_of is_digit w) e in
    let low = digit_from b parts.0 in
    rw (ne_eqb b 46 (λ q. omega arith), whole_part_lem w f parts.1)

after-point : (w f : List ℕ) → all_of is_digit w ≡ true → decimals (w ++ 46 ∷ f) ≡ f
after-point [] f e = refl
after-point (b ∷ w) f e =
    let parts = and_parts (is_digit b) (all_of is_digit w) e in
    let low = digit_from b parts.0 in
    rw (ne_eqb b 46 (λ q. omega arith)) (after-point w f parts.1)

no_minus : (w f : List ℕ) → 0 < length w → all_of is_digit w ≡ true → unsigned (w ++ 46 ∷ f) ≡ w ++ 46 ∷ f
no_minus [] f h e = absurd (omega arith)
no_minus (b ∷ w) f h e = let low = digit_from b (and_parts (is_digit b) (all_of is_digit w) e).0 in rw (ne_eqb b 45 (λ q. omega arith))

-- with a minus or without
signed : (s : Bool) (w f : List ℕ) → 0 < length w → all_of is_digit w ≡ true →
    in_thousandths (cond s (ascii "-") [] ++ (w ++ 46 ∷ f)) ≡ value_of w 0 * 1000 + value_of f 0
signed true w f h e = rw (whole_part_lem w f e, after-point w f e)
signed false w f h e = rw (no_minus w f h e, whole_part_lem w f e, after-point w f e)

-- a number by its thousands and its last three digits
last_three : (t : ℕ) → t / 1000 * 1000 + ((t / 100 % 10 * 10 + t / 10 % 10) * 10 + t % 10) ≡ t
last_three t = omega arith

three_value : (t : ℕ) → value_of (three_digits t) 0 ≡ (t / 100 % 10 * 10 + t / 10 % 10) * 10 + t % 10
three_value t = simp add-sub_cancel_left (omega arith)

pub coordinate_value : (x : Float) → thousandths x < 10 ^ 20 → in_thousandths (coordinate x) ≡ thousandths x
unfolding coordinate
coordinate_value x h =
    let t = thousandths x in
    let w = digits (t / 1000) in
    signed (negative x && ltb 0 t) w (three_digits t) (digits-some (t / 1000) (omega arith)) (digits_are_digits (t / 1000))
    ∙ rw (digits_value (t / 1000) (omega arith), three_value t) (last_three t)
