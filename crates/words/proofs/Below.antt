-- Laws of a test at the numbers below n.
use mathlib.Core.Path.{◌≡◌, refl, subst⁻¹, ap₂}
use mathlib.Core.Bool.{Bool, true, false, ◌||◌, true≢false, false≢true}
use mathlib.Core.Logic.{⊎_elim}
use Prim.Native.Nat.{ℕ, zero, suc, ◌<◌}
use native.Mathlib.Omega.{arith}
use native.Mathlib.Nat.{eq-or-lt_of_le, le_of_suc-le-suc, not-suc-le-zero}
use Rattle.words.specs.Records.{any_below}

pub true_unless : (t : Bool) → (t ≡ false → ⊥) → t ≡ true
true_unless true h = refl
true_unless false h = absurd (h refl)

or_right : (t : Bool) → (t || true) ≡ true
or_right true = refl
or_right false = refl

pub any_below_lem : (p : ℕ → Bool) (n g : ℕ) → g < n → p g ≡ true → any_below n p ≡ true
any_below_lem p zero g h e = absurd (not-suc-le-zero h)
any_below_lem p (suc n) g h e =
    ⊎_elim
    (λ q. rw (subst⁻¹ (λ (m : ℕ). p m ≡ true) (sym' q) e) refl)
    (λ l. rw (any_below_lem p n g l e) (or_right (p n)))
    (eq-or-lt_of_le (le_of_suc-le-suc h))
  where
    sym' : g ≡ n → n ≡ g
    sym' e = cc

pub none_below : (p : ℕ → Bool) (n : ℕ) → ((g : ℕ) → g < n → p g ≡ false) → any_below n p ≡ false
none_below p zero h = refl
none_below p (suc n) h = rw (h n (omega arith)) (none_below p n (λ g l. h g (omega arith)))

-- a number at which the test passes
pub some_below : (p : ℕ → Bool) (n : ℕ) → any_below n p ≡ true → (g : ℕ) × (g < n) × (p g ≡ true)
some_below p zero e = absurd (false≢true e)
some_below p (suc n) e = go (p n) refl e (some_below p n)
  where
    go : (t : Bool) → p n ≡ t → (t || any_below n p) ≡ true →
        (any_below n p ≡ true → (g : ℕ) × (g < n) × (p g ≡ true)) → (g : ℕ) × (g < suc n) × (p g ≡ true)
    go true k e h = (n, omega arith, k)
    go false k e h = let r = h e in (r.0, omega (arith, r.1), r.2)

pub below_false : (p : ℕ → Bool) (n : ℕ) → any_below n p ≡ false → (g : ℕ) → g < n → p g ≡ true → ⊥
below_false p n e g h k = true≢false (cc (any_below_lem p n g h k))

pub below_ext : (n : ℕ) (p q : ℕ → Bool) → ((g : ℕ) → g < n → p g ≡ q g) → any_below n p ≡ any_below n q
below_ext zero p q h = refl
below_ext (suc n) p q h = ap₂ ◌||◌ (h n (omega arith)) (below_ext n p q (λ g l. h g (omega arith)))

pub below_not : (p : ℕ → Bool) (n : ℕ) → any_below n p ≡ false → (g : ℕ) → g < n → p g ≡ false
below_not p n e g h = go (p g) refl
  where
    go : (t : Bool) → p g ≡ t → p g ≡ false
    go true k = absurd (below_false p n e g h k)
    go false k = k
