-- The order of refusals, for every list of rules. A call proves each return by one of these two laws.
--   First rs x n          the rule numbered n applies, and none before it: of the tests up to that rule the last alone is true
--   None rs x             no rule applies
--   first_is              where rule n is the first, the first refusal is n,
--   refused-first         and the call is refused with n,
--   kept                  and then every lent buffer is as it was
--   refused_is, accepted_is   the same where a part of the call has found the verdict of all rules,
--   refused_by, passed_by     and of the rules that come first
--   none_is               where no rule applies, the first refusal is 0 (passes of Accepting says the converse),
--   accepted-none         and then the call answers,
--   put                   and then every lent buffer begins with what is written
-- All tests stand in one equation, so that cc answers it from what the code has tested.
-- Assumes nothing.
use mathlib.Core.Path.{◌≡◌, refl, sym, ap, ◌∙◌}
use mathlib.Core.Bool.{Bool, true, false, cond}
use mathlib.Core.List.{List, [], ◌∷◌, ◌++◌, map}
use Prim.Native.Nat.{ℕ, zero, suc, ◌≤◌}
use native.Mathlib.Omega.{arith}
use lib.Dec.{eqb, leb}
use borrow.Author.Tests.{eqb-true, leb-true}
use Rattle.rules.specs.Calls.{Rule, first_refusal, Outcome, accepted, refused, outcome, decide, after, written}
use Rattle.rules.specs.Numbers.{number_of}
use Rattle.rules.specs.declared.refusal.Refusal.{Refusal}
use Rattle.rules.proofs.Answers.{all_numbered, number_of_range, first_refusal-refused, first_refusal_passed}
use Rattle.rules.proofs.Tests.{and_parts}

module _ {I : Type 0} where
  -- the tests up to the rule of that number, and what they are where it is the first
  abbrev pub tests_to : ℕ → List (Rule I) → I → List Bool
  tests_to n [] x = []
  tests_to n (r ∷ rs) x = r.applies x ∷ cond (eqb r.number n) [] (tests_to n rs x)

  abbrev pub last_true : ℕ → List (Rule I) → List Bool
  last_true n [] = true ∷ []
  last_true n (r ∷ rs) = cond (eqb r.number n) (true ∷ []) (false ∷ last_true n rs)

  abbrev pub First : List (Rule I) → I → ℕ → Type 0
  First rs x n = tests_to n rs x ≡ last_true n rs

  abbrev pub None : List (Rule I) → I → Type 0
  None rs x = map (λ r. r.applies x) rs ≡ map (λ r. false) rs

  pub first_is : (rs : List (Rule I)) (x : I) (n : ℕ) → First rs x n → first_refusal rs x ≡ n
  first_is [] x n h = let z : ◌≡◌ {A = ℕ} 0 1 = cc in absurd (omega arith)
  first_is (r ∷ rs) x n h = go (eqb r.number n) refl h (first_is rs x n)
    where
      go : (t : Bool) → eqb r.number n ≡ t →
          ◌≡◌ {A = List Bool} (r.applies x ∷ cond t [] (tests_to n rs x)) (cond t (true ∷ []) (false ∷ last_true n rs)) →
          (First rs x n → first_refusal rs x ≡ n) → first_refusal (r ∷ rs) x ≡ n
      go true e k next = let a : r.applies x ≡ true = cc in rw a (eqb-true r.number n e)
      go false e k next = let a : r.applies x ≡ false = cc in rw a (next (cc))

  pub none_is : (rs : List (Rule I)) (x : I) → None rs x → first_refusal rs x ≡ 0
  none_is [] x h = refl
  none_is (r ∷ rs) x h = let a : r.applies x ≡ false = cc in let b : None rs x = cc in rw a (none_is rs x b)

  first_positive : (rs : List (Rule I)) (x : I) → all_numbered rs ≡ true → First rs x 0 → ⊥
  first_positive [] x n h = let z : ◌≡◌ {A = ℕ} 0 1 = cc in omega arith
  first_positive (r ∷ rs) x n h =
      let parts = and_parts (leb 1 r.number) (all_numbered rs) n in
      go (eqb r.number 0) refl h (leb-true 1 r.number parts.0) (first_positive rs x parts.1)
    where
      go : (t : Bool) → eqb r.number 0 ≡ t →
          ◌≡◌ {A = List Bool} (r.applies x ∷ cond t [] (tests_to 0 rs x)) (cond t (true ∷ []) (false ∷ last_true 0 rs)) →
          1 ≤ r.number → (First rs x 0 → ⊥) → ⊥
      go true e k l next = omega (arith, eqb-true r.number 0 e)
      go false e k l next = next (cc)

  module _ {A : Type 0} (rules : List (Rule I)) (answer : I → A) (x : I) where
    pub refused-first : all_numbered rules ≡ true → (n : ℕ) → First rules x n → refused n ≡ decide rules answer x
    refused-first m zero h = absurd (first_positive rules x m h)
    refused-first m (suc n) h = sym (ap (λ k. outcome k (answer x)) (first_is rules x (suc n) h))

    pub refused_is : (r : Refusal) → number_of r ≡ first_refusal rules x → refused (number_of r) ≡ decide rules answer x
    refused_is r e = some (number_of r) (number_of_range r).0 ∙ ap (λ k. outcome k (answer x)) e
      where
        some : (n : ℕ) → 1 ≤ n → refused n ≡ outcome n (answer x)
        some zero h = absurd (omega arith)
        some (suc n) h = refl

    pub accepted_is : 0 ≡ first_refusal rules x → accepted (answer x) ≡ decide rules answer x
    accepted_is e = ap (λ k. outcome k (answer x)) e

    pub accepted-none : None rules x → accepted (answer x) ≡ decide rules answer x
    accepted-none h = accepted_is (sym (none_is rules x h))

  -- where the rules rs come first and a part of the call has found their verdict
  module _ {A : Type 0} (rs qs : List (Rule I)) (answer : I → A) (x : I) (m : all_numbered rs ≡ true) where
    pub refused_by : (r : Refusal) → number_of r ≡ first_refusal rs x → refused (number_of r) ≡ decide (rs ++ qs) answer x
    refused_by r e =
        let some = (number_of_range r).0 in
        refused_is (rs ++ qs) answer x r (e ∙ sym (first_refusal-refused rs qs x m (omega arith)))

    pub passed_by : 0 ≡ first_refusal rs x → decide qs answer x ≡ decide (rs ++ qs) answer x
    passed_by e = ap (λ k. outcome k (answer x)) (sym (first_refusal_passed rs qs x m (sym e)))

pub kept : {A B : Type 0} (o : Outcome A) (n : ℕ) (xs buf : List B) → refused n ≡ o → buf ≡ after o xs buf
kept o n xs buf e = rw (sym e)

pub put : {A B : Type 0} (o : Outcome A) (a : A) (xs buf : List B) → accepted a ≡ o → written xs buf ≡ after o xs buf
put o a xs buf e = rw (sym e)
