-- Records of n words, one after the other.
--   inside            word j of record p is inside s records
--   part_at           it is word p n + j of them all
--   part-within, part-long    record p has n words
--   default_free      inside a list the element for outside does not matter
--   drop-take         a front less its first elements
-- Assumes nothing.
use mathlib.Core.Path.{◌≡◌, refl, sym, ap, ◌∙◌}
use mathlib.Core.List.{List, [], ◌∷◌}
use Prim.Native.Nat.{ℕ, zero, suc, ◌+◌, ◌*◌, ◌≤◌, ◌<◌}
use native.Mathlib.Nat.{suc-mul, mul-le-mul_right, le_of_suc-le-suc, not-suc-le-zero}
use native.Mathlib.Omega.{arith}
use lib.ListN.{length, get_or, take, drop, length-drop}
use lib.Seq.{get_or-take, get_or-drop, length-take-le, take-nil}
use Rattle.words.specs.Records.{part}

pub inside : (s n p j : ℕ) → p < s → j < n → p * n + j < s * n
inside s n p j hp hj = omega (arith, suc-mul p n, mul-le-mul_right {m = suc p} {n = s} n hp)

pub default_free : {A : Type 0} (xs : List A) (i : ℕ) (a b : A) → i < length xs → get_or xs i a ≡ get_or xs i b
default_free [] i a b h = absurd (not-suc-le-zero h)
default_free (x ∷ xs) zero a b h = refl
default_free (x ∷ xs) (suc i) a b h = default_free xs i a b (le_of_suc-le-suc h)

-- a part of a front
pub drop-take : (m n k : ℕ) (l : List ℕ) → k ≡ m + n → drop m (take k l) ≡ take n (drop m l)
drop-take zero n k l e = ap (λ i. take i l) {x = k} {y = n} (omega arith)
drop-take (suc m) n zero l e = absurd (omega arith)
drop-take (suc m) n (suc k) [] e = sym (take-nil n)
drop-take (suc m) n (suc k) (x ∷ l) e = drop-take m n k l (omega arith)

module _ {A : Type 0} where
  pub part_at : (n p j : ℕ) (ws : List A) (z : A) → j < n → get_or (part n p ws) j z ≡ get_or ws (p * n + j) z
  part_at n p j ws z h = get_or-take n (drop (p * n) ws) j z h ∙ get_or-drop (p * n) ws j z

  pub part-within : (n p s : ℕ) (ws : List A) → p < s → s * n ≤ length ws → length (part n p ws) ≡ n
  part-within n p s ws h e =
      length-take-le n (drop (p * n) ws)
      (rw (length-drop (p * n) ws) (omega (arith, suc-mul p n, mul-le-mul_right {m = suc p} {n = s} n h)))

  pub part-long : (n p s : ℕ) (ws : List A) → p < s → length ws ≡ s * n → length (part n p ws) ≡ n
  part-long n p s ws h e = part-within n p s ws h (omega arith)
