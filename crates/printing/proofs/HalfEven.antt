-- `closest a b`, the whole number nearest to a / b and of two equally near the even one, in other ways.
--   closest_down, closest_up, closest_tie     by the remainder: below a half, above it, at it
--   half_added            over 2 h: h is added to an odd number, h - 1 to an even one, and the sum rounded down
-- Assumes nothing.
use mathlib.Core.Path.{◌≡◌, refl, sym, ap, ◌∙◌}
use mathlib.Core.Bool.{cond}
use Prim.Native.Nat.{ℕ, suc, ◌+◌, ◌*◌, ◌-◌, ◌/◌, ◌%◌, ◌<◌, compare, Ordering}
use native.Mathlib.Nat.{suc-mul, div-add-mod', mod-lt}
use native.Mathlib.Omega.{arith}
use native.Mathlib.Decide.{dec_lt, ℕ_discrete}
use lib.Arith.{digits_div}
use lib.Dec.{is_le, compare_is_eq}
use lib.Ieee.{nearest}
use lib.Ieee.Nearest.{closest}
use borrow.Author.Tests.{le-leb, lt-leb, eq-eqb, ne_eqb}

by_tests : (q : ℕ) (o : Ordering) → nearest q o ≡ cond (is_le o) (cond (compare_is_eq o) (q + q % 2) q) (suc q)
by_tests q Ordering.lt = refl
by_tests q Ordering.eq = refl
by_tests q Ordering.gt = refl

module _ (a b : ℕ) where
  abbrev twice : ℕ
  twice = a % b * 2

  pub closest_down : twice < b → closest a b ≡ a / b
  closest_down h = by_tests (a / b) (compare twice b) ∙ rw (le-leb twice b (omega arith), ne_eqb twice b (λ e. omega arith))

  pub closest_tie : twice ≡ b → closest a b ≡ a / b + a / b % 2
  closest_tie h = by_tests (a / b) (compare twice b) ∙ rw (le-leb twice b (omega arith), eq-eqb twice b h)

  pub closest_up : b < twice → closest a b ≡ suc (a / b)
  closest_up h = by_tests (a / b) (compare twice b) ∙ rw (lt-leb twice b h)

-- over an even divisor 2 h: h is added to an odd number, h - 1 to an even one, and the sum rounded down
module _ (a h : ℕ) (p : 0 < h) where
  abbrev q : ℕ
  q = a / (2 * h)

  abbrev sum : ℕ
  sum = a + h - 1 + q % 2

  rest : (n r : ℕ) → sum ≡ n * (2 * h) + r → r < 2 * h → sum / (2 * h) ≡ n
  rest n r e l = ap (λ (z : ℕ). z / (2 * h)) e ∙ digits_div n l

  half_by : Dec (a % (2 * h) < h) → Dec (h < a % (2 * h)) → Dec (q % 2 ≡ 0) → sum / (2 * h) ≡ closest a (2 * h)
  half_by (yes l) m e =
      let whole = div-add-mod' a (2 * h) in
      rest q (a % (2 * h) + h - 1 + q % 2) (omega (arith, whole)) (omega arith) ∙ sym (closest_down a (2 * h) (omega arith))
  half_by (no l) (yes m) e =
      let whole = div-add-mod' a (2 * h) in
      let short = mod-lt a {m = 2 * h} (omega arith) in
      rest (suc q) (a % (2 * h) - h - 1 + q % 2) (omega (arith, whole, suc-mul q (2 * h))) (omega (arith, short))
      ∙ sym (closest_up a (2 * h) (omega arith))
  half_by (no l) (no m) (yes e) =
      let whole = div-add-mod' a (2 * h) in
      rest q (2 * h - 1) (omega (arith, whole)) (omega arith) ∙ sym (closest_tie a (2 * h) (omega arith) ∙ omega arith)
  half_by (no l) (no m) (no e) =
      let whole = div-add-mod' a (2 * h) in
      rest (suc q) 0 (omega (arith, whole, suc-mul q (2 * h))) (omega arith) ∙ sym (closest_tie a (2 * h) (omega arith) ∙ omega arith)

  pub half_added : sum / (2 * h) ≡ closest a (2 * h)
  half_added = half_by (dec_lt (a % (2 * h)) h) (dec_lt h (a % (2 * h))) (ℕ_discrete (q % 2) 0)
