-- Lists cut into records of one length.
--   tabulate n f      f 0, f 1, .. , f (n - 1)
--   part size p xs    record p of a list of records of that size
--   concat xss        the lists one after the other
--   any_of, all_of      whether a test passes at some, at each element
--   any_below n p      whether it passes at some number below n
use Rattle.std.specs.Prelude.{Bool, true, false, ◌&&◌, ◌||◌, List, [], ◌∷◌, ◌++◌, ℕ, zero, suc, ◌*◌, take, drop}

module _ {ℓ} {A : Type ℓ} where
  abbrev pub tabulate : ℕ → (ℕ → A) → List A
  tabulate zero f = []
  tabulate (suc n) f = f zero ∷ tabulate n (λ i. f (suc i))

  abbrev pub part : ℕ → ℕ → List A → List A
  part size p xs = take size (drop (p * size) xs)

  abbrev pub concat : List (List A) → List A
  concat [] = []
  concat (xs ∷ xss) = xs ++ concat xss

  abbrev pub any_of : (A → Bool) → List A → Bool
  any_of q [] = false
  any_of q (x ∷ xs) = q x || any_of q xs

  abbrev pub all_of : (A → Bool) → List A → Bool
  all_of q [] = true
  all_of q (x ∷ xs) = q x && all_of q xs

abbrev pub any_below : ℕ → (ℕ → Bool) → Bool
any_below zero p = false
any_below (suc n) p = p n || any_below n p
