-- Neighbours told from the cells, by counts.
--   face_in w v            1 where the cell on the row v has the face w
--   others_with p n w cs   how many cells other than p have the face w, the cells being numbered from n
--   Wing p n w cs m       the number m is that of a cell other than p that has the face w
use mathlib.Core.Path.{◌≡◌, refl, sym, subst, ap, ap₂}
use mathlib.Core.Bool.{Bool, true, false, not, cond, ◌&&◌, false≢true}
use mathlib.Core.List.{List, [], ◌∷◌}
use Prim.Native.Nat.{ℕ, zero, suc, ◌+◌, ◌≤◌, ◌<◌}
use native.Mathlib.Omega.{arith}
use native.Mathlib.Nat.{add-zero, le_of_suc-le-suc, not-suc-le-zero}
use lib.Dec.{eqb, ltb}
use lib.ListN.{length}
use borrow.Author.Tests.{eqb-false, eq-eqb, ne_eqb, ltb-true, ltb-false, lt-ltb}
use Rattle.simplex.specs.Cell.{Cell, Row, filled, one, same_row}
use Rattle.simplex.specs.Chain.{sum_rows, total}
use Rattle.simplex.specs.Faces.{all_faces, faces, facets, without}
use Rattle.simplex.specs.Sort.{Asc}
use Rattle.simplex.proofs.Cancel.{total-keep}
use Rattle.simplex.proofs.Each.{All}
use Rattle.simplex.proofs.Counts.{count_faces, one_and, sum_rows-all_faces, sum_rows_le}
use Rattle.simplex.proofs.FaceCounts.{count_faces_face, count_faces_find, count_faces_once, total-faces, without-filled}
use Rattle.simplex.proofs.Rows.{hits, same_row_refl, same_row_true}
use Rattle.solids.specs.Wings.{has_face, neighbour_from}
use Rattle.solids.proofs.Solid.{row_at}

-- has, as a number
abbrev pub face_in : Row → Row → ℕ
face_in w v = one (has_face w v)

pub face_in_le : (w v : Row) → face_in w v ≤ count_faces (hits w) v
face_in_le w v =
    omega (arith, total-faces w true 0 v, go (ltb 0 (total w (faces true 0 v))) refl, one_and (filled w) (ltb 0 (total w (faces true 0 v))))
  where
    go : (t : Bool) → ltb 0 (total w (faces true 0 v)) ≡ t → one t ≤ total w (faces true 0 v)
    go true e = omega (arith, ltb-true 0 (total w (faces true 0 v)) e)
    go false e = omega arith

pub has_face_lem : (j : ℕ) (v : Row) → j < length v → 2 ≤ length v → has_face (without j v) v ≡ true
has_face_lem j v h l =
    rw (without-filled j v h l) (lt-ltb 0 (total (without j v) (faces true 0 v))
    (omega (arith, total-faces (without j v) true 0 v, count_faces_face (hits (without j v)) j v h, ap one (same_row_refl (without j v)))))

-- how many cells other than p have the face
abbrev pub others_with : ℕ → ℕ → Row → List Cell → ℕ
others_with p n w [] = 0
others_with p n w (c ∷ cs) = cond (eqb p n) 0 (face_in w c.row) + others_with p (suc n) w cs

others_with_past : (p n : ℕ) (w : Row) (cs : List Cell) → p < n → others_with p n w cs ≡ sum_rows (face_in w) cs
others_with_past p n w [] h = refl
others_with_past p n w (c ∷ cs) h = ap₂ (λ a b. a + b) (rw (ne_eqb p n (λ e. omega arith)) refl) (others_with_past p (suc n) w cs (omega arith))

pub others_with_pick : (p n : ℕ) (w : Row) (cs : List Cell) → p < length cs
    → others_with (n + p) n w cs + face_in w (row_at cs p) ≡ sum_rows (face_in w) cs
others_with_pick p n w [] h = absurd (not-suc-le-zero h)
others_with_pick zero n w (c ∷ cs) h =
    rw (eq-eqb (n + 0) n (add-zero n)) (omega (arith, others_with_past (n + 0) (suc n) w cs (omega arith)))
others_with_pick (suc p) n w (c ∷ cs) h =
    let e : suc n + p ≡ n + suc p = omega arith in
    let r : others_with (n + suc p) (suc n) w cs + face_in w (row_at cs p) ≡ sum_rows (face_in w) cs =
    subst (λ (m : ℕ). others_with m (suc n) w cs + face_in w (row_at cs p) ≡ sum_rows (face_in w) cs) e
    (others_with_pick p (suc n) w cs (le_of_suc-le-suc h)) in
    rw (ne_eqb (n + suc p) n (λ e. omega arith)) (omega arith)

pub others_with_ge : (p n q : ℕ) (w : Row) (cs : List Cell) → q < length cs → (p ≡ n + q → ⊥) → face_in w (row_at cs q) ≤ others_with p n w cs
others_with_ge p n q w [] h k = absurd (not-suc-le-zero h)
others_with_ge p n zero w (c ∷ cs) h k = rw (ne_eqb p n (λ e. k (omega arith))) (omega arith)
others_with_ge p n (suc q) w (c ∷ cs) h k = omega (arith, others_with_ge p (suc n) q w cs (le_of_suc-le-suc h) (λ e. k (omega arith)))

-- no other cell: empty
pub neighbour-none : (p n : ℕ) (w : Row) (cs : List Cell) → others_with p n w cs ≡ 0 → neighbour_from p n w cs ≡ 65535
neighbour-none p n w [] h = refl
neighbour-none p n w (c ∷ cs) h = go (eqb p n) (has_face w c.row) h (neighbour-none p (suc n) w cs)
  where
    go : (s t : Bool) → cond s 0 (one t) + others_with p (suc n) w cs ≡ 0 →
        (others_with p (suc n) w cs ≡ 0 → neighbour_from p (suc n) w cs ≡ 65535) → cond (not s && t) n (neighbour_from p (suc n) w cs) ≡ 65535
    go true t h k = k (omega arith)
    go false true h k = absurd (omega arith)
    go false false h k = k (omega arith)

-- one other cell: it
pub neighbour-one : (p n q : ℕ) (w : Row) (cs : List Cell) → others_with p n w cs ≤ 1 →
    q < length cs → (p ≡ n + q → ⊥) → has_face w (row_at cs q) ≡ true → neighbour_from p n w cs ≡ n + q
neighbour-one p n q w [] m h k e = absurd (not-suc-le-zero h)
neighbour-one p n zero w (c ∷ cs) m h k e = rw (ne_eqb p n (λ e. k (omega arith)), e) (sym (add-zero n))
neighbour-one p n (suc q) w (c ∷ cs) m h k e =
    go (eqb p n) (has_face w c.row) m (λ l. neighbour-one p (suc n) q w cs l (le_of_suc-le-suc h) (λ z. k (omega arith)) e)
    (others_with_ge p (suc n) q w cs (le_of_suc-le-suc h) (λ z. k (omega arith)))
  where
    go : (s t : Bool) → cond s 0 (one t) + others_with p (suc n) w cs ≤ 1 →
        (others_with p (suc n) w cs ≤ 1 → neighbour_from p (suc n) w cs ≡ suc n + q) → face_in w (row_at cs q) ≤ others_with p (suc n) w cs →
        cond (not s && t) n (neighbour_from p (suc n) w cs) ≡ n + suc q
    go true t m f g = omega (arith, f (omega arith))
    go false true m f g = absurd (omega (arith, ap one e))
    go false false m f g = omega (arith, f (omega arith))

pub neighbour-empty : (p n : ℕ) (w : Row) (cs : List Cell) → n + length cs ≤ 65535 → neighbour_from p n w cs ≡ 65535 → others_with p n w cs ≡ 0
neighbour-empty p n w [] l e = refl
neighbour-empty p n w (c ∷ cs) l e = go (eqb p n) (has_face w c.row) e (neighbour-empty p (suc n) w cs (omega arith))
  where
    go : (s t : Bool) → cond (not s && t) n (neighbour_from p (suc n) w cs) ≡ 65535 →
        (neighbour_from p (suc n) w cs ≡ 65535 → others_with p (suc n) w cs ≡ 0) → cond s 0 (one t) + others_with p (suc n) w cs ≡ 0
    go true t e k = omega (arith, k e)
    go false true e k = absurd (omega arith)
    go false false e k = omega (arith, k e)

abbrev pub Wing : ℕ → ℕ → Row → List Cell → ℕ → Type 0
Wing p n w cs m = (q : ℕ) × (q < length cs) × (m ≡ n + q) × (p ≡ n + q → ⊥) × (has_face w (row_at cs q) ≡ true)

pub neighbour_is : (p n : ℕ) (w : Row) (cs : List Cell) → (neighbour_from p n w cs ≡ 65535 → ⊥) → Wing p n w cs (neighbour_from p n w cs)
neighbour_is p n w [] h = absurd (h refl)
neighbour_is p n w (c ∷ cs) h = go (eqb p n) refl (has_face w c.row) refl h (neighbour_is p (suc n) w cs)
  where
    next : Wing p (suc n) w cs (neighbour_from p (suc n) w cs) → Wing p n w (c ∷ cs) (neighbour_from p (suc n) w cs)
    next r = (suc r.0, omega arith, omega arith, (λ e. r.3 (omega arith)), r.4)

    go : (s : Bool) → eqb p n ≡ s → (t : Bool) → has_face w c.row ≡ t → (cond (not s && t) n (neighbour_from p (suc n) w cs) ≡ 65535 → ⊥) →
        ((neighbour_from p (suc n) w cs ≡ 65535 → ⊥) → Wing p (suc n) w cs (neighbour_from p (suc n) w cs)) →
        Wing p n w (c ∷ cs) (cond (not s && t) n (neighbour_from p (suc n) w cs))
    go true z t y h k = next (k h)
    go false z true y h k = (0, omega arith, omega arith, (λ e. eqb-false p n z (omega arith)), y)
    go false z false y h k = next (k h)

pub and_right : (s t : Bool) → (s && t) ≡ true → t ≡ true
and_right true t e = e
and_right false t e = absurd (false≢true e)

pub has_filled : (w v : Row) → has_face w v ≡ true → filled w ≡ true
has_filled [] v e = absurd (false≢true e)
has_filled (x ∷ w) v e = refl

pub has_is : (w v : Row) → has_face w v ≡ true → (b : ℕ) × (b < length v) × (without b v ≡ w)
has_is w v h =
    let r = count_faces_find (λ y. same_row y w) v
    (omega (arith, ltb-true 0 (total w (faces true 0 v)) (and_right (filled w) (ltb 0 (total w (faces true 0 v))) h), total-faces w true 0 v)) in
    (r.0, r.1, same_row_true (without r.0 v) w r.2)

pub count_faces_face_in : (w v : Row) → filled w ≡ true → Asc v → count_faces (hits w) v ≤ face_in w v
count_faces_face_in w v n s = rw n (go (ltb 0 (total w (faces true 0 v))) refl)
  where
    go : (t : Bool) → ltb 0 (total w (faces true 0 v)) ≡ t → count_faces (hits w) v ≤ one t
    go true e = count_faces_once w v s
    go false e = omega (arith, ltb-false 0 (total w (faces true 0 v)) e, total-faces w true 0 v)

pub total-face_in : (w : Row) (cs : List Cell) → filled w ≡ true → All Asc cs → total w (all_faces cs) ≤ sum_rows (face_in w) cs
total-face_in w cs n a =
    omega (arith, sum_rows-all_faces (hits w) cs, sum_rows_le Asc (count_faces (hits w)) (face_in w) cs a (λ y s. count_faces_face_in w y n s))

sum_rows_le' : (f g : Row → ℕ) (cs : List Cell) → ((y : Row) → f y ≤ g y) → sum_rows f cs ≤ sum_rows g cs
sum_rows_le' f g [] h = omega arith
sum_rows_le' f g (c ∷ cs) h = omega (arith, h c.row, sum_rows_le' f g cs h)

pub face_in-total : (w : Row) (cs : List Cell) → sum_rows (face_in w) cs ≤ total w (all_faces cs)
face_in-total w cs = omega (arith, sum_rows-all_faces (hits w) cs, sum_rows_le' (face_in w) (count_faces (hits w)) cs (λ y. face_in_le w y))

pub face_in-facets : (w : Row) (cs : List Cell) → filled w ≡ true → sum_rows (face_in w) cs ≤ total w (facets cs)
face_in-facets w cs n = omega (arith, face_in-total w cs, rw n at (total-keep filled w (all_faces cs)))
