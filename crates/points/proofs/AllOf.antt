-- Whether a test passes at every element.
--   all_of_true                            told by the elements at each index
--   all_of-append, all_of-concat            of joined lists
--   all_of-tabulate, all_of-tabulate_at     of a tabulated list
--   and_one                               true is no further condition
--   list_all-is                           said by the library's word
--   same_test                             two tests are equal if each is true where the other is
-- Assumes nothing.
use mathlib.Core.Path.{◌≡◌, refl, sym, ap, ◌∙◌}
use mathlib.Core.Bool.{Bool, true, false, ◌&&◌}
use mathlib.Core.List.{List, [], ◌∷◌, ◌++◌}
use Prim.Native.Nat.{ℕ, zero, suc, ◌<◌}
use native.Mathlib.Nat.{not-suc-le-zero, le_of_suc-le-suc}
use native.Mathlib.Omega.{arith}
use lib.ListN.{length, get_or}
use Rattle.std.specs.List.{list_all}
use Rattle.words.specs.Records.{tabulate, concat, all_of}
use Rattle.rules.proofs.Tests.{and_parts}

pub same_test : (a b : Bool) → (a ≡ true → b ≡ true) → (b ≡ true → a ≡ true) → a ≡ b
same_test true b f g = sym (f refl)
same_test false true f g = g refl
same_test false false f g = refl

pub and_one : (a : Bool) → (a && true) ≡ a
and_one true = refl
and_one false = refl

and-true : (a b : Bool) → a ≡ true → b ≡ true → (a && b) ≡ true
and-true a b p q = rw (p, q)

pub and_assoc : (a b c : Bool) → ((a && b) && c) ≡ (a && (b && c))
and_assoc true b c = refl
and_assoc false b c = refl

module _ {ℓ} {A : Type ℓ} (q : A → Bool) where
  pub all_of_true : (z : A) (xs : List A) → ((k : ℕ) → k < length xs → q (get_or xs k z) ≡ true) → all_of q xs ≡ true
  all_of_true z [] h = refl
  all_of_true z (x ∷ xs) h = and-true (q x) (all_of q xs) (h 0 (omega arith)) (all_of_true z xs (λ k l. h (suc k) (omega arith)))

  pub all_of-append : (xs ys : List A) → all_of q (xs ++ ys) ≡ (all_of q xs && all_of q ys)
  all_of-append [] ys = refl
  all_of-append (x ∷ xs) ys = ap (λ (b : Bool). q x && b) (all_of-append xs ys) ∙ sym (and_assoc (q x) (all_of q xs) (all_of q ys))

  pub all_of-concat : (xss : List (List A)) → all_of q (concat xss) ≡ all_of (all_of q) xss
  all_of-concat [] = refl
  all_of-concat (xs ∷ xss) = all_of-append xs (concat xss) ∙ ap (λ (b : Bool). all_of q xs && b) (all_of-concat xss)

  pub all_of-tabulate : (n : ℕ) (f : ℕ → A) → ((k : ℕ) → k < n → q (f k) ≡ true) → all_of q (tabulate n f) ≡ true
  all_of-tabulate zero f h = refl
  all_of-tabulate (suc n) f h =
      and-true (q (f 0)) (all_of q (tabulate n (λ i. f (suc i)))) (h 0 (omega arith))
      (all_of-tabulate n (λ i. f (suc i)) (λ k l. h (suc k) (omega arith)))

  pub all_of-tabulate_at : (n : ℕ) (f : ℕ → A) → all_of q (tabulate n f) ≡ true → (k : ℕ) → k < n → q (f k) ≡ true
  all_of-tabulate_at zero f e k l = absurd (not-suc-le-zero l)
  all_of-tabulate_at (suc n) f e zero l = (and_parts (q (f 0)) (all_of q (tabulate n (λ i. f (suc i)))) e).0
  all_of-tabulate_at (suc n) f e (suc k) l =
      all_of-tabulate_at n (λ i. f (suc i)) (and_parts (q (f 0)) (all_of q (tabulate n (λ i. f (suc i)))) e).1 k (le_of_suc-le-suc l)

pub list_all-is : {A : Type 0} (q : A → Bool) (xs : List A) → list_all q xs ≡ all_of q xs
list_all-is q [] = refl
list_all-is q (x ∷ xs) = ap (λ (b : Bool). q x && b) (list_all-is q xs)
