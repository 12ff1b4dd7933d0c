-- Two thousandths are equally near to a float exactly where it is an odd sixteenth.
--   OddMultiple n d       n is an odd multiple of d
--   tie_sixteenth         where two are near, sixteen times the float is an odd number,
--   sixteenth_tie         and where it is, two are near
-- Assumes nothing.
use mathlib.Core.Path.{◌≡◌, sym, ap, ◌∙◌}
use Prim.Native.Nat.{ℕ, zero, suc, ◌+◌, ◌*◌, ◌/◌, ◌%◌, ◌^◌}
use native.Mathlib.Nat.{add-mul, suc-mul, mul_comm, mul-one, one-mul, mul_assoc, pow-suc, add-mul-mod_self_left, mul-mod_right}
use native.Mathlib.Omega.{arith}
use lib.IntN.{ℤ, pos, negsuc}
use lib.Ieee.{up, down}
use Rattle.printing.proofs.Rounding.{Near}

pub record OddMultiple (n d : ℕ) : Type 0 where
  pub count : ℕ
  pub odd : count % 2 ≡ 1
  pub value : n ≡ count * d

parity : (n : ℕ) → 125 * n % 2 ≡ n % 2
parity n = ap (λ (z : ℕ). z % 2) (let e : 125 * n ≡ n + 2 * (62 * n) = omega arith in e) ∙ add-mul-mod_self_left n 2 (62 * n)

-- 125 goes out of an odd number, however often it is doubled
halved : (k n u : ℕ) → u % 2 ≡ 1 → 125 * n ≡ u * 2 ^ k → OddMultiple n (2 ^ k)
halved zero n u o e = record { count = n; odd = sym (parity n) ∙ ap (λ (z : ℕ). z % 2) (e ∙ mul-one u) ∙ o; value = sym (mul-one n) }
halved (suc k) n u o e =
    let doubled : (z : ℕ) → z * 2 ^ suc k ≡ 2 * (z * 2 ^ k) =
    λ z. ap (λ (x : ℕ). z * x) (pow-suc 2 k) ∙ sym (mul_assoc z (2 ^ k) 2) ∙ mul_comm (z * 2 ^ k) 2 in
    let even : n % 2 ≡ 0 = sym (parity n) ∙ ap (λ (z : ℕ). z % 2) (e ∙ doubled u) ∙ mul-mod_right 2 (u * 2 ^ k) in
    let half = halved k (n / 2) u o (omega (arith, e, doubled u, even)) in
    record { count = half.count; odd = half.odd; value = omega (arith, even, half.value, doubled half.count) }

odd_of : (e : ℤ) (n u : ℕ) → u % 2 ≡ 1 → 125 * n ≡ u * down e → OddMultiple n (down e)
odd_of (pos k) n u o h = halved 0 n u o h
odd_of (negsuc k) n u o h = halved (suc k) n u o h

-- an odd number of halves
module _ (t d : ℕ) where
  halves : (2 * t + 1) * d ≡ 2 * (t * d) + d
  halves = add-mul (2 * t) 1 d ∙ omega (arith, mul_assoc 2 t d, one-mul d)

pub tie_sixteenth : (m : ℕ) (e : ℤ) (t : ℕ) → Near (1000 * (m * up e)) (down e) t → Near (1000 * (m * up e)) (down e) (suc t) →
    OddMultiple (16 * (m * up e)) (down e)
tie_sixteenth m e t p q =
    let more = suc-mul t (down e) in
    odd_of e (16 * (m * up e)) (2 * t + 1) (omega arith) (omega (arith, more, halves t (down e), p.below, q.above))

pub sixteenth_tie : (m : ℕ) (e : ℤ) → (o : OddMultiple (16 * (m * up e)) (down e)) →
    Near (1000 * (m * up e)) (down e) (125 * o.count / 2) × Near (1000 * (m * up e)) (down e) (suc (125 * o.count / 2))
sixteenth_tie m e o =
    let d = down e in
    let t = 125 * o.count / 2 in
    let more = suc-mul t d in
    let parts : 125 * o.count ≡ 2 * t + 1 = omega (arith, parity o.count, o.odd) in
    let same : 2 * (1000 * (m * up e)) ≡ 2 * (t * d) + d =
    omega (arith, o.value, mul_assoc 125 o.count d, ap (λ (z : ℕ). z * d) parts, halves t d) in
    (record { above = omega arith; below = omega arith }, record { above = omega arith; below = omega arith })
