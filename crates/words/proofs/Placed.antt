-- Words written one after the other.
--   placed_first          from the start of the buffer
--   placed-none, placed-length    nothing written; the buffer keeps its length
--   placed_then           a second list behind the first
--   placed-behind, placed-before  behind and before what was written the buffer is as it was
--   placed-read           there it is what was written
--   placed_over           a longer list over a list
--   placed_one            one element
--   placed_cons, placed-last      the first before the others; the last before the others
--   placed_word           one word more of a list
--   words-concat          the words of lists, one list after the other
-- Assumes nothing.
use mathlib.Core.Path.{◌≡◌, refl, sym, ap, ap₂, ◌∙◌}
use mathlib.Core.List.{List, [], ◌∷◌, ◌++◌, map, append_assoc}
use Prim.Native.Nat.{ℕ, zero, suc, ◌+◌, ◌-◌, ◌≤◌, ◌<◌}
use native.Mathlib.Nat.{zero-add, add-zero}
use native.Mathlib.Numerals.{add-one}
use native.Mathlib.Omega.{arith}
use lib.ListN.{length, take, drop, get_or, set, length-append, length-drop, take-append-drop, get_or-append}
use lib.Seq.{length-take-le, take-set-le, take-suc, take_at, drop_at, drop-drop, set_split, get_or-take}
use Rattle.words.specs.Records.{tabulate, concat}
use Rattle.words.specs.Inner.Placed.{placed}

module _ {A : Type 0} where
  pub placed_first : (xs buf : List A) → placed 0 xs buf ≡ xs ++ drop (length xs) buf
  unfolding placed
  placed_first xs buf = ap (λ n. xs ++ drop n buf) (zero-add (length xs))

  pub placed-none : (at : ℕ) (buf : List A) → placed at [] buf ≡ buf
  unfolding placed
  placed-none at buf = ap (λ n. take at buf ++ drop n buf) (add-zero at) ∙ take-append-drop at buf

  pub placed-length : (at : ℕ) (xs buf : List A) → at + length xs ≤ length buf → length (placed at xs buf) ≡ length buf
  unfolding placed
  placed-length at xs buf h =
      omega (
        arith,
        length-append (take at buf) (xs ++ drop (at + length xs) buf),
        length-append xs (drop (at + length xs) buf),
        length-drop (at + length xs) buf,
        length-take-le at buf (omega arith),
      )

  pub placed_then : (at : ℕ) (xs ys buf : List A) → at + length xs ≤ length buf →
      placed (at + length xs) ys (placed at xs buf) ≡ placed at (xs ++ ys) buf
  unfolding placed
  placed_then at xs ys buf h =
      ap₂ {C = List A} (λ a b. a ++ (ys ++ b)) front back ∙ append_assoc (take at buf) xs (ys ++ drop (at + length (xs ++ ys)) buf)
      ∙ ap (λ r. take at buf ++ r) (sym (append_assoc xs ys (drop (at + length (xs ++ ys)) buf)))
    where
      first : List A
      first = take at buf ++ xs

      first-long : length first ≡ at + length xs
      first-long = omega (arith, length-append (take at buf) xs, length-take-le at buf (omega arith))

      split : placed at xs buf ≡ first ++ drop (at + length xs) buf
      split = sym (append_assoc (take at buf) xs (drop (at + length xs) buf))

      front : take (at + length xs) (placed at xs buf) ≡ first
      front = ap (take (at + length xs)) split ∙ take_at first (drop (at + length xs) buf) (at + length xs) first-long

      ends : at + length xs + length ys ≡ at + length (xs ++ ys)
      ends = omega (arith, length-append xs ys)

      back : drop (at + length xs + length ys) (placed at xs buf) ≡ drop (at + length (xs ++ ys)) buf
      back =
          sym (drop-drop (length ys) (at + length xs) (placed at xs buf))
          ∙ ap (drop (length ys)) (ap (drop (at + length xs)) split ∙ drop_at first (drop (at + length xs) buf) (at + length xs) first-long)
          ∙ drop-drop (length ys) (at + length xs) buf
          ∙ ap (λ n. drop n buf) ends

  -- behind what was written the buffer is as it was
  pub placed-behind : (at : ℕ) (xs buf : List A) → at + length xs ≤ length buf →
      drop (at + length xs) (placed at xs buf) ≡ drop (at + length xs) buf
  unfolding placed
  placed-behind at xs buf h =
      ap (drop (at + length xs)) (sym (append_assoc (take at buf) xs (drop (at + length xs) buf)))
      ∙ drop_at (take at buf ++ xs) (drop (at + length xs) buf) (at + length xs)
      (omega (arith, length-append (take at buf) xs, length-take-le at buf (omega arith)))

  -- before it too
  pub placed-before : (at : ℕ) (xs buf : List A) (i : ℕ) (z : A) → i < at → at ≤ length buf → get_or (placed at xs buf) i z ≡ get_or buf i z
  unfolding placed
  placed-before at xs buf i z h room =
      get_or-append (take at buf) (xs ++ drop (at + length xs) buf) z i (omega (arith, length-take-le at buf room)) ∙ get_or-take at buf i z h

  -- what was written is read there
  pub placed-read : (at : ℕ) (xs buf : List A) → at ≤ length buf → take (length xs) (drop at (placed at xs buf)) ≡ xs
  unfolding placed
  placed-read at xs buf room =
      ap (take (length xs)) (drop_at (take at buf) (xs ++ drop (at + length xs) buf) at (length-take-le at buf room))
      ∙ take_at xs _ (length xs) refl

  -- a longer list written over a list
  pub placed_over : (at : ℕ) (xs ys buf : List A) → length xs ≤ length ys → at + length xs ≤ length buf →
      placed at ys (placed at xs buf) ≡ placed at ys buf
  unfolding placed
  placed_over at xs ys buf h room = ap₂ {C = List A} (λ a b. a ++ (ys ++ b)) front back
    where
      front : take at (placed at xs buf) ≡ take at buf
      front = take_at (take at buf) (xs ++ drop (at + length xs) buf) at (length-take-le at buf (omega arith))

      back : drop (at + length ys) (placed at xs buf) ≡ drop (at + length ys) buf
      back =
          let d = length ys - length xs in
          let e : at + length ys ≡ at + length xs + d = omega arith in
          rw e
          (sym (drop-drop d (at + length xs) (placed at xs buf)) ∙ ap (drop d) (placed-behind at xs buf room) ∙ drop-drop d (at + length xs) buf)

  -- a store is a list of one word
  pub placed_one : (at : ℕ) (x : A) (buf : List A) → at < length buf → set buf at x ≡ placed at (x ∷ []) buf
  unfolding placed
  placed_one at x buf h = set_split buf at x h ∙ ap (λ n. take at buf ++ x ∷ drop n buf) (sym (add-one at))

  -- the first element, and then the others behind it
  pub placed_cons : (at : ℕ) (x : A) (xs buf : List A) → at < length buf → placed (at + 1) xs (set buf at x) ≡ placed at (x ∷ xs) buf
  placed_cons at x xs buf h = ap (placed (at + 1) xs) (placed_one at x buf h) ∙ placed_then at (x ∷ []) xs buf (omega arith)

  -- the last element may be written first
  pub placed-last : (at : ℕ) (a : List A) (b : A) (old : List A) → at + length a < length old →
      placed at (a ++ b ∷ []) old ≡ placed at a (set old (at + length a) b)
  unfolding placed
  placed-last at a b old h =
      let n = length a in
      let longer : at + length (a ++ b ∷ []) ≡ suc (at + n) = omega (arith, length-append a (b ∷ [])) in
      let after : drop (at + n) (set old (at + n) b) ≡ b ∷ drop (suc (at + n)) old =
      ap (drop (at + n)) (set_split old (at + n) b h)
      ∙ drop_at (take (at + n) old) (b ∷ drop (suc (at + n)) old) (at + n) (length-take-le (at + n) old (omega arith)) in
      ap (λ (k : ℕ). take at old ++ ((a ++ b ∷ []) ++ drop k old)) longer
      ∙ ap (λ (l : List A). take at old ++ l) (append_assoc a (b ∷ []) (drop (suc (at + n)) old))
      ∙ sym (ap (λ (l : List A). l ++ (a ++ drop (at + n) (set old (at + n) b))) (take-set-le at old (at + n) b (omega arith))
      ∙ ap (λ (l : List A). take at old ++ (a ++ l)) after)

pub placed_word : (at j x : ℕ) (xs buf out : List ℕ) → j < length xs → at + length xs ≤ length buf →
    out ≡ placed at (take j xs) buf → x ≡ get_or xs j 0 → set out (at + j) x ≡ placed at (take (j + 1) xs) buf
placed_word at j x xs buf out hj room e ex =
    let long : length (take j xs) ≡ j = length-take-le j xs (omega arith) in
    let out-long : length (placed at (take j xs) buf) ≡ length buf = placed-length at (take j xs) buf (omega arith) in
    ap₂ {C = List ℕ} (λ l y. set l (at + j) y) e ex
    ∙ placed_one (at + j) (get_or xs j 0) (placed at (take j xs) buf) (omega arith)
    ∙ ap (λ n. placed n (get_or xs j 0 ∷ []) (placed at (take j xs) buf)) (ap (λ n. at + n) (sym long))
    ∙ placed_then at (take j xs) (get_or xs j 0 ∷ []) buf (omega arith)
    ∙ ap (λ l. placed at l buf) (sym (take-suc xs j 0 hj) ∙ ap (λ n. take n xs) (sym (add-one j)))

concat-append : {A : Type 0} (xss yss : List (List A)) → concat (xss ++ yss) ≡ concat xss ++ concat yss
concat-append [] yss = refl
concat-append (xs ∷ xss) yss = ap (λ r. xs ++ r) (concat-append xss yss) ∙ sym (append_assoc xs (concat xss) (concat yss))

map-append : {A B : Type 0} (g : A → B) (xs ys : List A) → map g (xs ++ ys) ≡ map g xs ++ map g ys
map-append g [] ys = refl
map-append {B = B} g (x ∷ xs) ys = ap {B = List B} (λ r. g x ∷ r) (map-append g xs ys)

-- the words of n lists, one list after the other
pub words-concat : {A : Type 0} (g : A → List ℕ) (n : ℕ) (f : ℕ → List A) →
    concat (map g (concat (tabulate n f))) ≡ concat (tabulate n (λ i. concat (map g (f i))))
words-concat g zero f = refl
words-concat g (suc n) f =
    ap concat (map-append g (f 0) (concat (tabulate n (λ i. f (suc i)))))
    ∙ concat-append (map g (f 0)) (map g (concat (tabulate n (λ i. f (suc i)))))
    ∙ ap (λ r. concat (map g (f 0)) ++ r) (words-concat g n (λ i. f (suc i)))
