-- What is promised of printed coordinates: the nearest thousandth, of two equally near the even one.
--   Near a b t            t is at most a half off a / b
--   Nearest a b t         and even, where another number is too
--   thousandths_near      this holds of what is printed, and a float's thousandfold,
--   nearest_unique        and of no other number
-- Assumes nothing.
use mathlib.Core.Path.{◌≡◌, sym}
use mathlib.Core.Bool.{Bool}
use Prim.Native.Nat.{ℕ, suc, ◌+◌, ◌*◌, ◌/◌, ◌%◌, ◌≤◌, ◌<◌}
use native.Mathlib.Nat.{add-mul, suc-mul, mul-le-mul_right, lt_of_mul-lt-mul_right, div-add-mod', mod-lt}
use native.Mathlib.Omega.{arith}
use native.Mathlib.Decide.{dec_lt, ℕ_discrete}
use lib.IntN.{ℤ}
use lib.Ieee.{fin, up, down}
use lib.Ieee.Fits.{down_pos}
use lib.Ieee.Nearest.{closest}
use Rattle.printing.specs.Decimal.{thousandths}
use Rattle.printing.proofs.HalfEven.{closest_down, closest_up, closest_tie}

-- both sides are twice the number, times b
pub record Near (a b t : ℕ) : Type 0 where
  pub above : 2 * (t * b) ≤ 2 * a + b
  pub below : 2 * a ≤ 2 * (t * b) + b

pub record Nearest (a b t : ℕ) : Type 0 where
  pub near : Near a b t
  pub even : (u : ℕ) → Near a b u → (u ≡ t → ⊥) → t % 2 ≡ 0

-- two that are near are neighbours
near_next : (a b t u : ℕ) → 0 < b → Near a b t → Near a b u → t ≤ suc u
near_next a b t u h p q =
    let less : t * b < suc (suc u) * b = omega (arith, p.above, q.below, suc-mul (suc u) b, suc-mul u b) in
    omega (arith, lt_of_mul-lt-mul_right b less)

-- less than a half off: no other is near
alone : (a b t u : ℕ) → 2 * (t * b) < 2 * a + b → 2 * a < 2 * (t * b) + b → Near a b u → u ≡ t
alone a b t u p q n =
    let low : u * b < suc t * b = omega (arith, n.above, suc-mul t b) in
    let high : t * b < suc u * b = omega (arith, n.below, suc-mul u b) in
    omega (arith, lt_of_mul-lt-mul_right b low, lt_of_mul-lt-mul_right b high)

nearest_alone : (a b t : ℕ) → 2 * (t * b) < 2 * a + b → 2 * a < 2 * (t * b) + b → Nearest a b t
nearest_alone a b t p q = record {
  near = record { above = omega arith; below = omega arith };
  even = λ u n other. absurd (other (alone a b t u p q n));
}

closest_of : (a b : ℕ) → 0 < b → Dec (a % b * 2 < b) → Dec (b < a % b * 2) → Nearest a b (closest a b)
closest_of a b h (yes l) m =
    let whole = div-add-mod' a b in
    rw (closest_down a b l) (nearest_alone a b (a / b) (omega (arith, whole)) (omega (arith, whole)))
closest_of a b h (no l) (yes m) =
    let whole = div-add-mod' a b in
    let more = suc-mul (a / b) b in
    let short = mod-lt a h in
    rw (closest_up a b m) (nearest_alone a b (suc (a / b)) (omega (arith, whole, more, short)) (omega (arith, whole, more, short)))
closest_of a b h (no l) (no m) =
    let q = a / b in
    let whole = div-add-mod' a b in
    let sum = add-mul q (q % 2) b in
    let step : q % 2 * b ≤ 1 * b = mul-le-mul_right b (omega arith) in
    let tie : a % b * 2 ≡ b = omega arith in
    rw (closest_tie a b tie) record {
      near = record { above = omega (arith, whole, sum, step, tie); below = omega (arith, whole, sum, step, tie) };
      even = λ u n other. omega arith;
    }

closest_is : (a b : ℕ) → 0 < b → Nearest a b (closest a b)
closest_is a b h = closest_of a b h (dec_lt (a % b * 2) b) (dec_lt b (a % b * 2))

pub thousandths_near : (s : Bool) (m : ℕ) (e : ℤ) → Nearest (1000 * (m * up e)) (down e) (thousandths (fin s m e))
unfolding thousandths
thousandths_near s m e = closest_is (1000 * (m * up e)) (down e) (down_pos e)

unique_by : (a b t u : ℕ) → 0 < b → Nearest a b t → Nearest a b u → Dec (t ≡ u) → t ≡ u
unique_by a b t u h p q (yes e) = e
unique_by a b t u h p q (no n) =
    let evens : (t % 2 ≡ 0) × (u % 2 ≡ 0) = (p.even u q.near (λ e. n (sym e)), q.even t p.near n) in
    omega (arith, evens.0, evens.1, near_next a b t u h p.near q.near, near_next a b u t h q.near p.near)

pub nearest_unique : (a b t u : ℕ) → 0 < b → Nearest a b t → Nearest a b u → t ≡ u
nearest_unique a b t u h p q = unique_by a b t u h p q (ℕ_discrete t u)
