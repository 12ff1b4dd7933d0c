-- Laws of signs.
use mathlib.Core.Path.{◌≡◌, refl, sym, ap, ◌∙◌}
use mathlib.Core.Bool.{Bool, true, false, not, false≢true}
use Prim.Native.Nat.{ℕ, zero, suc, ◌%◌}
use native.Mathlib.Omega.{arith}
use lib.Dec.{eqb}
use borrow.Author.Tests.{eq-eqb, ne_eqb}
use Rattle.simplex.specs.Cell.{times, alternating}

pub times_not : (s b : Bool) → times (not s) b ≡ not (times s b)
times_not true b = refl
times_not false true = refl
times_not false false = refl

pub times-times : (e s b : Bool) → times (times e s) b ≡ times e (times s b)
times-times true s b = refl
times-times false s b = times_not s b

pub times_not_r : (s b : Bool) → times s (not b) ≡ not (times s b)
times_not_r true b = refl
times_not_r false b = refl

pub not-not : (b : Bool) → not (not b) ≡ b
not-not true = refl
not-not false = refl

pub times_flip : (p b : Bool) → times p (not b) ≡ times (not p) b
times_flip true b = refl
times_flip false b = not-not b

pub times_swap : (p e b : Bool) → times p (times e b) ≡ times (not e) (times (not p) b)
times_swap true true b = sym (not-not b)
times_swap true false b = refl
times_swap false true b = refl
times_swap false false b = not-not b

pub times_comm : (s t b : Bool) → times s (times t b) ≡ times t (times s b)
times_comm true t b = refl
times_comm false true b = refl
times_comm false false b = refl

pub times_true : (s : Bool) → times s true ≡ s
times_true true = refl
times_true false = refl

pub times_not_not : (s t : Bool) → times (not s) (not t) ≡ times s t
times_not_not true true = refl
times_not_not true false = refl
times_not_not false t = refl

pub times_self : (s : Bool) → times s s ≡ true
times_self true = refl
times_self false = refl

pub times-same : (s t : Bool) → times s t ≡ true → s ≡ t
times-same true t e = sym e
times-same false true e = absurd (false≢true e)
times-same false false e = refl

-- (-1)^n by the rest of n
pub alternating-rest : (n : ℕ) → alternating n ≡ eqb (n % 2) 0
alternating-rest zero = refl
alternating-rest (suc zero) = refl
alternating-rest (suc (suc n)) =
    let same : n % 2 ≡ suc (suc n) % 2 = omega arith in
    not-not (alternating n) ∙ alternating-rest n ∙ ap (λ m. eqb m 0) same

pub even_plus : (n : ℕ) → n % 2 ≡ 0 → alternating n ≡ true
even_plus n e = alternating-rest n ∙ eq-eqb (n % 2) 0 e

pub odd_minus : (n : ℕ) → (n % 2 ≡ 0 → ⊥) → alternating n ≡ false
odd_minus n e = alternating-rest n ∙ ne_eqb (n % 2) 0 e
