-- One more key linked, one more key answered, and the keys of a cell.
use mathlib.Core.Path.{◌≡◌, refl, sym, ap, subst, subst⁻¹, ◌∙◌}
use mathlib.Core.Logic.{⊎_elim}
use mathlib.Core.Bool.{Bool, true, false, cond}
use mathlib.Core.List.{List, ◌++◌}
use Prim.Native.Nat.{ℕ, ◌+◌, ◌-◌, ◌*◌, ◌/◌, ◌%◌, ◌<◌, ◌≤◌}
use native.Mathlib.Nat.{div-one, eq-or-lt_of_le, le_of_suc-le-suc, not-suc-le-zero, ne_of_lt, ne_of_gt, mul-le-mul_right}
use native.Mathlib.Numerals.{add-one}
use native.Mathlib.Omega.{arith}
use lib.Dec.{eqb}
use lib.ListN.{length, get_or, set, take, drop, replicate, length-set, length-append, length-drop, length-replicate, get_or-append, get_or-replicate}
use lib.Seq.{get_or-set_same, get_or-set_other, get_or-append-add, get_or-drop, length-take-le}
use borrow.Author.Tests.{eqb-true, eqb-false}
use Rattle.words.specs.Records.{part}
use Rattle.simplex.specs.Cell.{same_row}
use Rattle.simplex.specs.Faces.{without}
use Rattle.matching.specs.Inner.Matching.{cell_row, key_row, Behind}
use Rattle.matching.specs.Inner.Buckets.{bucket_of}
use Rattle.matching.specs.Inner.Links.{last_of, Heads, Linked, Linking}
use Rattle.matching.proofs.KeptRows.{take_past}
use Rattle.matching.proofs.Quotients.{cell_of_key, place_of_key}

-- what is stored at m, and what stood below it
pub one_more : (P : ℕ → ℕ) (l : List ℕ) (m x : ℕ) → m < length l → x ≡ P m →
    ((f : ℕ) → f < m → get_or l f 0 ≡ P f) → (f : ℕ) → f < m + 1 → get_or (set l m x) f 0 ≡ P f
one_more P l m x h e all f b =
    ⊎_elim
    (λ q. subst⁻¹ (λ (i : ℕ). get_or (set l m x) i 0 ≡ P i) q (get_or-set_same l m x 0 h ∙ e))
    (λ less. get_or-set_other l m f x 0 (ne_of_lt less) ∙ all f less)
    (eq-or-lt_of_le (le_of_suc-le-suc (subst (λ (i : ℕ). f < i) (add-one m) b)))

module _ (of : ℕ → ℕ) (head prev : List ℕ) (n m b : ℕ) (h : m < 32768) (few : n ≤ 32768)
    (e : b ≡ of m) (hb : b < n) (k : Linking of head prev n m) where
  heads_more : Heads of (set head b m) n (m + 1)
  unfolding last_of
  heads_more c l =
      subst⁻¹ (λ (i : ℕ). get_or (set head b m) c 0 ≡ last_of of c i) (add-one m) (go (eqb (of m) c) refl)
    where
      go : (t : Bool) → eqb (of m) c ≡ t → get_or (set head b m) c 0 ≡ cond t m (last_of of c m)
      go true q = subst (λ (i : ℕ). get_or (set head b m) i 0 ≡ m) (e ∙ eqb-true _ _ q) (get_or-set_same head b m 0 (omega (arith, k.head_long)))
      go false q = get_or-set_other head b c m 0 (λ r. eqb-false _ _ q (sym (r ∙ e))) ∙ k.heads c l

  pub linking_more : Linking of (set head b m) (set prev m (get_or head b 0)) n (m + 1)
  linking_more = record {
    heads = heads_more;
    links =
        one_more (λ f. last_of of (of f) f) prev m (get_or head b 0) (omega (arith, k.prev_long))
        (k.heads b hb ∙ ap (λ (c : ℕ). last_of of c m) e)
        k.links;
    head_long = length-set head b m ∙ k.head_long;
    prev_long = length-set prev m (get_or head b 0) ∙ k.prev_long;
  }

-- before the first key there are no heads
pub linking-start : (of : ℕ → ℕ) (head prev : List ℕ) (n : ℕ) → ((b : ℕ) → b < n → get_or head b 0 ≡ 65535) →
    length head ≡ 32768 → length prev ≡ 32768 → Linking of head prev n 0
unfolding last_of
linking-start of head prev n none lh lp = record {
  heads = none;
  links = λ f l. absurd (not-suc-le-zero l);
  head_long = lh;
  prev_long = lp;
}

-- a store before place n
pub behind-set : (n : ℕ) (l old : List ℕ) (m x : ℕ) → m < n → Behind n l old → Behind n (set l m x) old
behind-set n l old m x h b g t = get_or-set_other l m g x 0 (ne_of_gt (omega arith)) ∙ b g t

-- the keys below g are linked and those from g on answered; one more is answered
pub answered_more : (P : ℕ → ℕ) (l : List ℕ) (n g x : ℕ) → g < length l → x ≡ P g →
    ((f : ℕ) → g + 1 ≤ f → f < n → get_or l f 0 ≡ P f) → (f : ℕ) → g ≤ f → f < n → get_or (set l g x) f 0 ≡ P f
answered_more P l n g x h e all f b t =
    ⊎_elim
    (λ q. subst (λ (i : ℕ). get_or (set l g x) i 0 ≡ P i) q (get_or-set_same l g x 0 h ∙ e))
    (λ more. get_or-set_other l g f x 0 (ne_of_gt more) ∙ all f (omega arith) t)
    (eq-or-lt_of_le b)

pub linked_below : (of : ℕ → ℕ) (l : List ℕ) (g x : ℕ) → Linked of l (g + 1) → Linked of (set l g x) g
linked_below of l g x k f b = get_or-set_other l g f x 0 (ne_of_lt b) ∙ k f (omega arith)

-- key i of cell p
module _ (p i w : ℕ) (h : i < w) where
  key_is : (rows : List ℕ) (k first : ℕ) → key_row rows k w first (p * w + i) ≡ without (first + i) (cell_row rows k p)
  key_is rows k first = λ t. without (first + place_of_key p i w h t) (cell_row rows k (cell_of_key p i w h t))

  -- so its bucket is that of the cell less a position
  pub bucket_is : (rows : List ℕ) (k first b : ℕ) → b ≡ bucket_of (without (first + i) (cell_row rows k p)) →
      b ≡ bucket_of (key_row rows k w first (p * w + i))
  bucket_is rows k first b e = e ∙ ap bucket_of (sym (key_is rows k first))

  pub key_below : p < 4096 → p * w + i < 4096 * w
  key_below l = omega (arith, mul-le-mul_right {m = p} {n = 4095} w (omega arith))

-- a key of the whole cells
pub whole_key : (rows : List ℕ) (k p : ℕ) → key_row rows k 1 k p ≡ cell_row rows k p
whole_key rows k p = take_past k (k + p % 1) (part 8 (p / 1) rows) (omega arith) ∙ ap (cell_row rows k) (div-one p)

-- keys compared by their cells and positions
module _ (rows : List ℕ) (k w first f x u g y v : ℕ) (ex : x ≡ f / w) (eu : u ≡ f % w) (ey : y ≡ g / w) (ev : v ≡ g % w) where
  pub compared : (t : Bool) → t ≡ same_row (without (first + u) (cell_row rows k x)) (without (first + v) (cell_row rows k y)) →
      t ≡ same_row (key_row rows k w first f) (key_row rows k w first g)
  compared t e = e ∙ (λ i. same_row (without (first + eu i) (cell_row rows k (ex i))) (without (first + ev i) (cell_row rows k (ey i))))

-- what stands where the first n places are filled
pub record Filled (n x : ℕ) (old new : List ℕ) : Type 0 where
  pub each : (g : ℕ) → g < n → get_or new g 0 ≡ x
  pub behind : Behind n new old
  pub long : length new ≡ length old

pub filled_front : (n x : ℕ) (old front : List ℕ) → n ≤ length old → front ≡ replicate (length (take n old)) x →
    Filled n x old (front ++ drop n old)
filled_front n x old front few e = record {
  each = λ g l. get_or-append front (drop n old) 0 g (omega (arith, many)) ∙ ap (λ (r : List ℕ). get_or r g 0) e
      ∙ get_or-replicate (length (take n old)) g x 0 (omega (arith, taken));
  behind = λ g h.
      let at : g ≡ length front + (g - n) = omega (arith, many) in
      let back : n + (g - n) ≡ g = omega arith in
      ap (λ i. get_or (front ++ drop n old) i 0) at ∙ get_or-append-add front (drop n old) (g - n) 0 ∙ get_or-drop n old (g - n) 0
      ∙ ap (λ i. get_or old i 0) back;
  long = omega (arith, many, length-append front (drop n old), length-drop n old);
}
  where
    taken : length (take n old) ≡ n
    taken = length-take-le n old few

    many : length front ≡ n
    many = ap length e ∙ length-replicate {A = ℕ} (length (take n old)) x ∙ taken
