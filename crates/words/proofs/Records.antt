-- Laws of tabulated lists and of lists cut into records.
--   EachLong n xss        each list has n elements
--   record_fits, record_next      where a record ends
--   part_tabulated, length_tabulated      record k of tabulated lists of one length; how long they are
--   concat-none           lists without elements, one after the other
--   read_front, read_take         a part of a front part
use mathlib.Core.Path.{◌≡◌, refl, sym, ap, ap₂, ◌∙◌}
use mathlib.Core.List.{List, [], ◌∷◌, ◌++◌, map}
use Prim.Native.Nat.{ℕ, zero, suc, ◌+◌, ◌*◌, ◌≤◌, ◌<◌}
use native.Mathlib.Nat.{add_comm, zero-mul, suc-mul, mul-le-mul_right, le_of_suc-le-suc, not-suc-le-zero}
use native.Mathlib.Numerals.{add-one}
use native.Mathlib.Omega.{arith}
use lib.ListN.{length, take, drop, get_or, length-append, length-drop, take-append-drop}
use lib.Seq.{take_at, drop_at, drop-drop, drop-append-le, take-append-le, length-take-le}
use Rattle.words.specs.Records.{tabulate, part, concat}

module _ {ℓ} {A : Type ℓ} where
  pub tabulate-length : (n : ℕ) (f : ℕ → A) → length (tabulate n f) ≡ n
  tabulate-length zero f = refl
  tabulate-length (suc n) f = ap suc (tabulate-length n (λ i. f (suc i)))

  pub tabulate_at : (n : ℕ) (f : ℕ → A) (i : ℕ) (z : A) → i < n → get_or (tabulate n f) i z ≡ f i
  tabulate_at zero f i z h = absurd (not-suc-le-zero h)
  tabulate_at (suc n) f zero z h = refl
  tabulate_at (suc n) f (suc i) z h = tabulate_at n (λ i. f (suc i)) i z (le_of_suc-le-suc h)

  pub tabulate_ext : (n : ℕ) (f g : ℕ → A) → ((i : ℕ) → i < n → f i ≡ g i) → tabulate n f ≡ tabulate n g
  tabulate_ext zero f g h = refl
  tabulate_ext (suc n) f g h =
      ap₂ {C = List A} (λ a b. a ∷ b) (h 0 (omega arith)) (tabulate_ext n (λ i. f (suc i)) (λ i. g (suc i)) (λ i l. h (suc i) (omega arith)))

  -- a list is tabulated by its elements
  pub tabulate_get_d : (z : A) (xs : List A) → tabulate (length xs) (λ p. get_or xs p z) ≡ xs
  tabulate_get_d z [] = refl
  tabulate_get_d z (x ∷ xs) = ap {B = List A} (λ r. x ∷ r) (tabulate_get_d z xs)

  abbrev pub EachLong : ℕ → List (List A) → Type 0
  EachLong n [] = Unit {0}
  EachLong n (xs ∷ xss) = (length xs ≡ n) × EachLong n xss

  pub concat-length : (n : ℕ) (xss : List (List A)) → EachLong n xss → length (concat xss) ≡ length xss * n
  concat-length n [] a = sym (zero-mul n)
  concat-length n (xs ∷ xss) a = omega (arith, length-append xs (concat xss), a.0, concat-length n xss a.1, suc-mul (length xss) n)

  -- record p of lists of one length, one after the other, is list p
  pub part-concat : (n p : ℕ) (xss : List (List A)) → EachLong n xss → p < length xss → part n p (concat xss) ≡ get_or xss p []
  part-concat n p [] a h = absurd (not-suc-le-zero h)
  part-concat n zero (xs ∷ xss) a h = rw (zero-mul n) (take_at xs (concat xss) n a.0)
  part-concat n (suc p) (xs ∷ xss) a h =
      ap (take n)
      (rw (suc-mul p n, add_comm (p * n) n) (sym (drop-drop (p * n) n (xs ++ concat xss)) ∙ ap (drop (p * n)) (drop_at xs (concat xss) n a.0)))
      ∙ part-concat n p xss a.1 (le_of_suc-le-suc h)

-- record k of v records of n elements ends within them, and there record k + 1 starts
pub record_fits : (n v k : ℕ) → k < v → k * n + n ≤ v * n
record_fits n v k l = omega (arith, suc-mul k n, mul-le-mul_right n l)

pub record_next : (n k : ℕ) → (k + 1) * n ≡ k * n + n
record_next n k = rw (add-one k, suc-mul k n)

module _ {ℓ} {A : Type ℓ} where
  pub each_long : (n m : ℕ) (f : ℕ → List A) → ((i : ℕ) → i < m → length (f i) ≡ n) → EachLong n (tabulate m f)
  each_long n zero f h = tt
  each_long n (suc m) f h = (h 0 (omega arith), each_long n m (λ i. f (suc i)) (λ i l. h (suc i) (omega arith)))

  -- the same of tabulated lists
  pub part_tabulated : (n m k : ℕ) (f : ℕ → List A) → ((i : ℕ) → i < m → length (f i) ≡ n) → k < m →
      part n k (concat (tabulate m f)) ≡ f k
  part_tabulated n m k f each h =
      part-concat n k (tabulate m f) (each_long n m f each) (omega (arith, tabulate-length m f)) ∙ tabulate_at m f k [] h

  pub length_tabulated : (n m : ℕ) (f : ℕ → List A) → ((i : ℕ) → i < m → length (f i) ≡ n) →
      length (concat (tabulate m f)) ≡ m * n
  length_tabulated n m f each = concat-length n (tabulate m f) (each_long n m f each) ∙ ap (λ (k : ℕ). k * n) (tabulate-length m f)

  -- a part of the first of two lists
  pub concat-none : (n : ℕ) (f : ℕ → List A) → ((i : ℕ) → f i ≡ []) → concat (tabulate n f) ≡ []
  concat-none zero f e = refl
  concat-none (suc n) f e = rw (e zero) (concat-none n (λ i. f (suc i)) (λ i. e (suc i)))

  pub read_front : (xs ys : List A) (a n : ℕ) → a + n ≤ length xs → take n (drop a (xs ++ ys)) ≡ take n (drop a xs)
  read_front xs ys a n l =
      let inside : a ≤ length xs = omega arith in
      let fits : n ≤ length (drop a xs) = omega (arith, length-drop a xs) in
      ap (take n) (drop-append-le a xs ys inside) ∙ take-append-le n (drop a xs) ys fits

  -- a part of a front part is that part of the whole
  pub read_take : (w : ℕ) (d : List A) (a n : ℕ) → w ≤ length d → a + n ≤ w → take n (drop a (take w d)) ≡ take n (drop a d)
  read_take w d a n h l =
      sym (read_front (take w d) (drop w d) a n (omega (arith, length-take-le w d h)))
      ∙ ap (λ (x : List A). take n (drop a x)) (take-append-drop w d)

pub tabulate-map {ℓ κ} : {A : Type ℓ} {B : Type κ} (f : A → B) (n : ℕ) (g : ℕ → A) →
    map f (tabulate n g) ≡ tabulate n (λ i. f (g i))
tabulate-map f zero g = refl
tabulate-map {B = B} f (suc n) g = ap {B = List B} (λ r. f (g zero) ∷ r) (tabulate-map f n (λ i. g (suc i)))
