-- Loops that look for an element of a list: the elements from p on decide. Each starts with p at 0, by refl.
--   any_goes, any_stops, any_ends  whether some element passes a test
--   all_goes, all_stops, all_ends  whether each does
--   all_at                         where each passes, the element at a place does
--   drop_next                      the element at p, and those behind it
-- Assumes nothing.
use mathlib.Core.Path.{◌≡◌, refl, sym, ◌∙◌}
use mathlib.Core.Bool.{Bool, true, false, ◌&&◌, true≢false}
use mathlib.Core.List.{List, [], ◌∷◌}
use Prim.Native.Nat.{ℕ, zero, suc, ◌+◌, ◌≤◌, ◌<◌}
use native.Mathlib.Nat.{le_of_suc-le-suc, not-suc-le-zero}
use native.Mathlib.Numerals.{add-one}
use native.Mathlib.Omega.{arith}
use lib.ListN.{length, drop, get_or, drop_of_length-le}
use lib.Seq.{drop-cons}
use Rattle.words.specs.Records.{any_of, all_of}

head_of : (a b : Bool) → (a && b) ≡ true → a ≡ true
head_of true b e = refl
head_of false b e = e

tail_of : (a b : Bool) → (a && b) ≡ true → b ≡ true
tail_of true b e = e
tail_of false b e = absurd (true≢false (sym e))

module _ {A : Type 0} where
  -- the rest from p on is the element at p and the rest from p + 1 on
  pub drop_next : (z : A) (xs : List A) (p : ℕ) → p < length xs → drop p xs ≡ get_or xs p z ∷ drop (p + 1) xs
  drop_next z xs p h = rw (add-one p) (drop-cons xs p z h)

  -- a loop that looks for an element: `whole` is what is asked of the whole list, and the elements from p on decide it
  module _ (q : A → Bool) (z : A) (xs : List A) (n p : ℕ) (long : length xs ≡ n) where
    module _ (here : p < n) (x : A) (e : get_or xs p z ≡ x) where
      next : drop p xs ≡ x ∷ drop (p + 1) xs
      next = rw e at (drop_next z xs p (omega (arith, long, here)))

      pub any_goes : (whole : Bool) → q x ≡ false → whole ≡ any_of q (drop p xs) → whole ≡ any_of q (drop (p + 1) xs)
      any_goes whole t w = w ∙ rw (next, t)

      pub any_stops : (whole : Bool) → q x ≡ true → whole ≡ any_of q (drop p xs) → true ≡ whole
      any_stops whole t w = sym (w ∙ rw (next, t))

      pub all_goes : (whole : Bool) → q x ≡ true → whole ≡ all_of q (drop p xs) → whole ≡ all_of q (drop (p + 1) xs)
      all_goes whole t w = w ∙ rw (next, t)

      pub all_stops : (whole : Bool) → q x ≡ false → whole ≡ all_of q (drop p xs) → false ≡ whole
      all_stops whole t w = sym (w ∙ rw (next, t))

    module _ (over : n ≤ p) where
      none : length xs ≤ p
      none = omega (arith, long, over)

      pub any_ends : (whole : Bool) → whole ≡ any_of q (drop p xs) → false ≡ whole
      any_ends whole w = sym (w ∙ rw (drop_of_length-le xs none))

      pub all_ends : (whole : Bool) → whole ≡ all_of q (drop p xs) → true ≡ whole
      all_ends whole w = sym (w ∙ rw (drop_of_length-le xs none))

  pub all_at : (q : A → Bool) (z : A) (xs : List A) (p : ℕ) → all_of q xs ≡ true → p < length xs → q (get_or xs p z) ≡ true
  all_at q z [] p e h = absurd (not-suc-le-zero h)
  all_at q z (x ∷ xs) zero e h = head_of (q x) (all_of q xs) e
  all_at q z (x ∷ xs) (suc p) e h = all_at q z xs p (tail_of (q x) (all_of q xs) e) (le_of_suc-le-suc h)
