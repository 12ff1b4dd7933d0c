-- Rows of cells less one position: their vertices and when two are the same.
use mathlib.Core.Path.{◌≡◌, refl, sym, ap, subst, ◌∙◌}
use mathlib.Core.Bool.{Bool, true, false, cond}
use mathlib.Core.List.{List, [], ◌∷◌}
use Prim.Native.Nat.{ℕ, zero, suc, ◌+◌, ◌-◌, ◌*◌, ◌≤◌, ◌<◌}
use native.Mathlib.Nat.{le_of_suc-le-suc, not-suc-le-zero}
use native.Mathlib.Numerals.{add-one}
use native.Mathlib.Omega.{arith}
use lib.Dec.{ltb}
use lib.ListN.{length, take, drop, get_or, length-drop}
use lib.Seq.{get_or-take, get_or-drop, length-take-le, ext_get_or}
use borrow.Author.Tests.{ltb-true, ltb-false}
use Rattle.words.specs.Records.{part}
use Rattle.simplex.specs.Cell.{Row, same_row}
use Rattle.simplex.specs.Faces.{without}
use Rattle.simplex.proofs.Rows.{same_row_true, same_row_refl}
use Rattle.simplex.proofs.Without.{without-length}
use Rattle.matching.specs.Inner.Matching.{cell_row}

-- what holds where the test passes and where it fails holds of it
pub by_ltb : (P : Bool → Type 0) (a b : ℕ) → (a < b → P true) → (b ≤ a → P false) → P (ltb a b)
by_ltb P a b passed failed = go (ltb a b) refl
  where
    go : (t : Bool) → ltb a b ≡ t → P t
    go true e = passed (ltb-true a b e)
    go false e = failed (ltb-false a b e)

pub before_at : (a j : ℕ) (w : Row) → j < a → get_or (without a w) j 0 ≡ get_or w j 0
before_at zero j w h = absurd (not-suc-le-zero h)
before_at (suc a) j [] h = refl
before_at (suc a) zero (x ∷ w) h = refl
before_at (suc a) (suc j) (x ∷ w) h = before_at a j w (le_of_suc-le-suc h)

pub after_at : (a j : ℕ) (w : Row) → a ≤ j → get_or (without a w) j 0 ≡ get_or w (suc j) 0
after_at a zero [] h = refl
after_at a (suc j) [] h = refl
after_at zero j (x ∷ w) h = refl
after_at (suc a) zero (x ∷ w) h = absurd (not-suc-le-zero h)
after_at (suc a) (suc j) (x ∷ w) h = after_at a j w (le_of_suc-le-suc h)

-- a position past the end leaves nothing out
pub take_past : (k a : ℕ) (w : Row) → k ≤ a → without a (take k w) ≡ take k w
take_past zero a w h = refl
take_past (suc k) a [] h = refl
take_past (suc k) zero (x ∷ w) h = absurd (not-suc-le-zero h)
take_past (suc k) (suc a) (x ∷ w) h = ap {B = Row} (λ r. x ∷ r) (take_past k a w (le_of_suc-le-suc h))

pub part_at : (rows : List ℕ) (p j : ℕ) → j < 8 → get_or (part 8 p rows) j 0 ≡ get_or rows (p * 8 + j) 0
part_at rows p j h = get_or-take 8 (drop (p * 8) rows) j 0 h ∙ get_or-drop (p * 8) rows j 0

pub cell_at_lem : (rows : List ℕ) (k p j : ℕ) → k ≤ 8 → j < k → get_or (cell_row rows k p) j 0 ≡ get_or rows (p * 8 + j) 0
cell_at_lem rows k p j l h = get_or-take k (part 8 p rows) j 0 h ∙ part_at rows p j (omega arith)

module _ (rows : List ℕ) (k p : ℕ) (long : length rows ≡ 32768) (l : k ≤ 8) (h : p < 4096) where
  cell-length : length (cell_row rows k p) ≡ k
  cell-length =
      length-take-le k (part 8 p rows)
      (omega (arith, length-take-le 8 (drop (p * 8) rows) (omega (arith, length-drop (p * 8) rows))))

  pub key_length : (a : ℕ) → length (without a (cell_row rows k p)) ≡ cond (ltb a k) (k - 1) k
  key_length a =
      by_ltb (λ t. length (without a (cell_row rows k p)) ≡ cond t (k - 1) k) a k
      (λ y. omega (arith, without-length a (cell_row rows k p) (omega (arith, cell-length)), cell-length))
      (λ n. ap length (take_past k a (part 8 p rows) n) ∙ cell-length)

  -- vertex j of those left stands at j before position a, and one further after it
  pub key_at : (a j : ℕ) → j < cond (ltb a k) (k - 1) k →
      get_or (without a (cell_row rows k p)) j 0 ≡ get_or rows (p * 8 + cond (ltb j a) j (j + 1)) 0
  key_at a j b =
      by_ltb (λ t. get_or (without a (cell_row rows k p)) j 0 ≡ get_or rows (p * 8 + cond t j (j + 1)) 0) j a
      (λ y. before_at a j (cell_row rows k p) y ∙ cell_at_lem rows k p j l (omega (arith, most)))
      (λ n. after_at a j (cell_row rows k p) n ∙ ap (λ (i : ℕ). get_or (cell_row rows k p) i 0) (sym (add-one j))
      ∙ cell_at_lem rows k p (j + 1) l (less n))
    where
      most : j < k
      most = by_ltb (λ t. j < cond t (k - 1) k → j < k) a k (λ y b. omega arith) (λ n b. b) b

      less : a ≤ j → j + 1 < k
      less n = by_ltb (λ t. j < cond t (k - 1) k → j + 1 < k) a k (λ y b. omega arith) (λ z b. omega arith) b

pub kept-few : (k a : ℕ) → k ≤ 8 → cond (ltb a k) (k - 1) k ≤ 8
kept-few k a l = by_ltb (λ t. cond t (k - 1) k ≤ 8) a k (λ y. omega arith) (λ n. l)

-- where vertex j stands is in the record
pub stands_below : (k a j : ℕ) → k ≤ 8 → j < cond (ltb a k) (k - 1) k → cond (ltb j a) j (j + 1) < 8
stands_below k a j l b =
    by_ltb (λ t. cond t j (j + 1) < 8) j a
    (λ y. omega (arith, b, kept-few k a l))
    (λ n. by_ltb (λ t. j < cond t (k - 1) k → j + 1 < 8) a k (λ y b. omega arith) (λ z b. omega arith) b)

pub same_false : (v w : Row) → (v ≡ w → ⊥) → same_row v w ≡ false
same_false v w differ = go (same_row v w) refl
  where
    go : (t : Bool) → same_row v w ≡ t → t ≡ false
    go true e = absurd (differ (same_row_true v w e))
    go false e = refl

pub same_true : (v w : Row) → length v ≡ length w → ((i : ℕ) → i < length v → get_or v i 0 ≡ get_or w i 0) → same_row v w ≡ true
same_true v w e all = subst (λ (u : Row). same_row v u ≡ true) (ext_get_or 0 v w e all) (same_row_refl v)

-- the row of cell p less position a and that of cell q less position b, of which m vertices are left
module _ (rows : List ℕ) (k p a q b : ℕ) (long : length rows ≡ 32768) (most : k ≤ 8) (hp : p < 4096) (hq : q < 4096) where
  abbrev one : Row
  one = without a (cell_row rows k p)

  abbrev other : Row
  other = without b (cell_row rows k q)

  pub other_length : (m n : ℕ) → m ≡ cond (ltb a k) (k - 1) k → n ≡ cond (ltb b k) (k - 1) k → (n ≡ m → ⊥) →
      same_row one other ≡ false
  other_length m n em en differ =
      same_false one other
      (λ e. differ (en ∙ sym (key_length rows k q long most hq b) ∙ ap length (sym e) ∙ key_length rows k p long most hp a ∙ sym em))

  module _ (m : ℕ) (em : m ≡ cond (ltb a k) (k - 1) k) (en : m ≡ cond (ltb b k) (k - 1) k) where
    module _ (j x y : ℕ) (l : j < m) (ex : x ≡ cond (ltb j a) j (j + 1)) (ey : y ≡ cond (ltb j b) j (j + 1)) where
      one_at : get_or one j 0 ≡ get_or rows (p * 8 + x) 0
      one_at = key_at rows k p long most hp a j (omega arith) ∙ ap (λ (i : ℕ). get_or rows (p * 8 + i) 0) (sym ex)

      other_at : get_or other j 0 ≡ get_or rows (q * 8 + y) 0
      other_at = key_at rows k q long most hq b j (omega arith) ∙ ap (λ (i : ℕ). get_or rows (q * 8 + i) 0) (sym ey)

      pub vertex-same : get_or rows (p * 8 + x) 0 ≡ get_or rows (q * 8 + y) 0 → get_or one j 0 ≡ get_or other j 0
      vertex-same e = one_at ∙ e ∙ sym other_at

      pub vertex_differs : (get_or rows (p * 8 + x) 0 ≡ get_or rows (q * 8 + y) 0 → ⊥) → same_row one other ≡ false
      vertex_differs differ = same_false one other (λ e. differ (sym one_at ∙ ap (λ (w : Row). get_or w j 0) e ∙ other_at))

    pub vertices-same : ((i : ℕ) → i < m → get_or one i 0 ≡ get_or other i 0) → same_row one other ≡ true
    vertices-same all =
        let u = key_length rows k p long most hp a in
        same_true one other (u ∙ sym em ∙ en ∙ sym (key_length rows k q long most hq b)) (λ i l. all i (omega (arith, u)))
