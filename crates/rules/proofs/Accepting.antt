-- What an accepted call tells: its answer, that no rule applies, and what stands at the front of the lent buffer.
--   test_of n rs x         the test of the rule numbered n
--   passes                it does not apply where there is no first refusal
--   accepted_by           an accepted call answers what it is to answer, and no rule applies
--   front_of              the front of a buffer that was written to
-- Assumes nothing.
use mathlib.Core.Path.{◌≡◌, refl, sym, ap, ◌∙◌}
use mathlib.Core.Bool.{Bool, true, false, cond}
use mathlib.Core.List.{List, [], ◌∷◌}
use Prim.Native.Nat.{ℕ, zero, suc, ◌≤◌}
use native.Mathlib.Omega.{arith}
use lib.Dec.{eqb, leb}
use lib.ListN.{length, take, drop, length-append}
use lib.Seq.{take_at}
use borrow.Author.Tests.{leb-true}
use Rattle.rules.specs.Calls.{Rule, first_refusal, accepted, outcome, decide, written}
use Rattle.rules.proofs.Answers.{all_numbered}
use Rattle.rules.proofs.Tests.{and_parts}

outcome-accepted : {A : Type 0} (n : ℕ) (a k : A) → outcome n a ≡ accepted k → (k ≡ a) × (n ≡ 0)
outcome-accepted zero a k e = (cc, refl)
outcome-accepted (suc n) a k e = let z : ◌≡◌ {A = ℕ} 0 1 = cc in absurd (omega arith)

module _ {I : Type 0} where
  -- the test of the rule of that number
  abbrev pub test_of : ℕ → List (Rule I) → I → Bool
  test_of n [] x = false
  test_of n (r ∷ rs) x = cond (eqb r.number n) (r.applies x) (test_of n rs x)

  pub passes : (rs : List (Rule I)) (x : I) → all_numbered rs ≡ true → 0 ≡ first_refusal rs x → (n : ℕ) → test_of n rs x ≡ false
  passes [] x m h n = refl
  passes (r ∷ rs) x m h n =
      let parts = and_parts (leb 1 r.number) (all_numbered rs) m in
      go (r.applies x) (eqb r.number n) h (leb-true 1 r.number parts.0) (λ k. passes rs x parts.1 k n)
    where
      go : (t same : Bool) → 0 ≡ cond t r.number (first_refusal rs x) → 1 ≤ r.number →
          (0 ≡ first_refusal rs x → test_of n rs x ≡ false) → cond same t (test_of n rs x) ≡ false
      go true same k l next = absurd (omega arith)
      go false true k l next = refl
      go false false k l next = next k

  pub accepted_by : {A : Type 0} (rs : List (Rule I)) (count : I → A) (x : I) (k : A) → all_numbered rs ≡ true → decide rs count x ≡ accepted k →
      (k ≡ count x) × ((n : ℕ) → test_of n rs x ≡ false)
  accepted_by rs count x k h e =
      let both = outcome-accepted (first_refusal rs x) (count x) k e in
      (both.0, passes rs x h (sym both.1))

pub front_of : {A : Type 0} (xs buf w : List A) (m : ℕ) → w ≡ written xs buf → m ≡ length xs → (m ≤ length w) × (take m w ≡ xs)
front_of xs buf w m e h =
    (omega (arith, ap length e, length-append xs (drop (length xs) buf)), ap (take m) e ∙ take_at xs (drop (length xs) buf) m (sym h))
