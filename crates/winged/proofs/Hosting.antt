-- The row for an input of the wrong length in bytes.
--   hosted-right          an even length is no refusal by itself
--   hosted_wrong          a wrong length in bytes is odd, or wrong in words
--   hosted-accepted       what is accepted with that row, the call accepted
-- Assumes nothing.
use mathlib.Core.Path.{◌≡◌, refl}
use mathlib.Core.Bool.{Bool, true, false, cond, ◌&&◌, and-false}
use mathlib.Core.List.{List}
use Prim.Native.Nat.{ℕ, ◌*◌, ◌%◌}
use native.Mathlib.Omega.{arith}
use lib.Dec.{eqb}
use lib.ListN.{length}
use borrow.Author.Tests.{eqb-false, ne_eqb}
use Rattle.words.specs.Bytes.{words16}
use Rattle.words.proofs.Bytes.{words_count}
use Rattle.rules.specs.Calls.{Outcome, accepted, refused}
use Rattle.winged.specs.Host.{hosted}

-- an even length is no refusal by itself
pub hosted-right : (b : Bool) (bytes : List ℕ) (n : ℕ) (o : Outcome ℕ) → length bytes ≡ n * 2 → hosted b bytes o ≡ o
hosted-right b bytes n o e = rw (ne_eqb (length bytes % 2) 1 (λ (q : length bytes % 2 ≡ 1). omega arith), and-false b) refl

-- a wrong length in bytes is odd, or wrong in words
pub hosted_wrong : (b : Bool) (bytes : List ℕ) (n : ℕ) (o : Outcome ℕ) → b ≡ true → (length bytes ≡ n * 2 → ⊥) →
    ((length (words16 bytes) ≡ n → ⊥) → o ≡ refused 3) → hosted b bytes o ≡ refused 3
hosted_wrong b bytes n o within wrong row = rw within (go (eqb (length bytes % 2) 1) refl)
  where
    go : (t : Bool) → eqb (length bytes % 2) 1 ≡ t → cond t (refused 3) o ≡ refused 3
    go true e = refl
    go false e =
        row (λ (q : length (words16 bytes) ≡ n).
        wrong (let odd : length bytes % 2 ≡ 1 → ⊥ = eqb-false (length bytes % 2) 1 e in omega (arith, words_count bytes, odd)))

pub hosted-accepted : (b : Bool) (bytes : List ℕ) (o : Outcome ℕ) (k : ℕ) → hosted b bytes o ≡ accepted k → o ≡ accepted k
hosted-accepted b bytes o k e = go (b && eqb (length bytes % 2) 1) e
  where
    go : (t : Bool) → cond t (refused 3) o ≡ accepted k → o ≡ accepted k
    go true e = let z : ◌≡◌ {A = ℕ} 0 1 = cc in absurd (omega arith)
    go false e = e
