-- Laws of the side pairs, in every dimension d.
--   side-below, side_from     a pair before and from place a on
--   side-first, side_next     the pairs obey the step rule: the first of them, and each after the one before
--   side_stepped              so the step rule, followed from the first pair on, leads to these pairs and to no others
--   side_bounds               a pair's cell is at most d, its position from 1 to d
--   side_of_position          each position 1 to d of each cell is the pair at its place over its face,
--   face_of_side              and over no other: a pair gives back its face and its place
-- Assumes nothing.
use mathlib.Core.Path.{◌≡◌, refl, ap, ap₂, ◌∙◌, sym, subst⁻¹}
use Prim.Native.Nat.{ℕ, zero, suc, ◌+◌, ◌-◌, ◌≤◌, ◌<◌}
use native.Mathlib.Omega.{arith}
use native.Mathlib.Decide.{dec_lt, dec_le}
use borrow.Author.Tests.{ne_eqb, lt-ltb, le-ltb, le-leb, lt-leb}
use Rattle.prism.specs.Sides.{Side, side, first_side, next_side, side_pair, side_face, side_place}

pub side-below : (d a l : ℕ) → l < a → side_pair d a l ≡ side l (a - l)
side-below d a l h = rw (lt-ltb l a h)

pub side_from : (d a l : ℕ) → a ≤ l → side_pair d a l ≡ side (suc l) (d + a - l)
side_from d a l h = rw (le-ltb l a h)

same-side : {k k' j j' : ℕ} → k ≡ k' → j ≡ j' → side k j ≡ side k' j'
same-side p q = ap₂ side p q

pub side-first : (d a : ℕ) → side_pair d a 0 ≡ first_side d a
side-first d zero = ap (side 1) (omega arith)
side-first d (suc a) = side-below d (suc a) 0 (omega arith) ∙ ap (side 0) (omega arith)

-- past position 1 to the next cell but one, else to the next cell one position lower
next_at_one : (d k : ℕ) → next_side d (side k 1) ≡ side (k + 2) d
next_at_one d k = refl

next_above-one : (d k j : ℕ) → 1 < j → next_side d (side k j) ≡ side (k + 1) (j - 1)
next_above-one d k j h = rw (ne_eqb j 1 (λ e. omega arith))

pub side_next : (d a l : ℕ) → a ≤ d → suc l < d → side_pair d a (suc l) ≡ next_side d (side_pair d a l)
side_next d a l ha hl = sym (go (dec_lt l a) (dec_lt (suc l) a))
  where
    go : Dec (l < a) → Dec (suc l < a) → next_side d (side_pair d a l) ≡ side_pair d a (suc l)
    go (yes p) (yes q) =
        ap (next_side d) (side-below d a l p) ∙ next_above-one d l (a - l) (omega arith) ∙ same-side (omega arith) (omega arith)
        ∙ sym (side-below d a (suc l) q)
    go (yes p) (no q) =
        let one : a - l ≡ 1 = omega arith in
        ap (next_side d) (side-below d a l p ∙ ap (side l) one) ∙ next_at_one d l ∙ same-side (omega arith) (omega arith)
        ∙ sym (side_from d a (suc l) (omega arith))
    go (no p) (yes q) = absurd (omega arith)
    go (no p) (no q) =
        ap (next_side d) (side_from d a l (omega arith)) ∙ next_above-one d (suc l) (d + a - l) (omega arith)
        ∙ same-side (omega arith) (omega arith) ∙ sym (side_from d a (suc l) (omega arith))

pub side_stepped : (d a : ℕ) (f : ℕ → Side) → f 0 ≡ first_side d a → ((l : ℕ) → f (suc l) ≡ next_side d (f l)) →
    (l : ℕ) → a ≤ d → l < d → f l ≡ side_pair d a l
side_stepped d a f first next zero ha hl = first ∙ sym (side-first d a)
side_stepped d a f first next (suc l) ha hl =
    next l ∙ ap (next_side d) (side_stepped d a f first next l ha (omega arith)) ∙ sym (side_next d a l ha hl)

pub record Bounded (d : ℕ) (x : Side) : Type 0 where
  pub cell : x.cell ≤ d
  pub above : 1 ≤ x.position
  pub below : x.position ≤ d

pub side_bounds : (d a l : ℕ) → a ≤ d → l < d → Bounded d (side_pair d a l)
side_bounds d a l ha hl = go (dec_lt l a)
  where
    go : Dec (l < a) → Bounded d (side_pair d a l)
    go (yes p) =
        subst⁻¹ (Bounded d) (side-below d a l p)
        (record { cell = omega arith; above = omega arith; below = omega arith })
    go (no p) =
        subst⁻¹ (Bounded d) (side_from d a l (omega arith))
        (record { cell = omega arith; above = omega arith; below = omega arith })

-- position j of cell k stands over the face k + j, at place k, where that is a face of the solid's cell, else past it
face-low : (d k j : ℕ) → k + j ≤ d → (side_face d k j ≡ k + j) × (side_place d k j ≡ k)
face-low d k j h = (rw (le-leb (k + j) d h), rw (le-leb (k + j) d h))

face_high : (d k j : ℕ) → d < k + j → (side_face d k j ≡ k + j - suc d) × (side_place d k j ≡ k - 1)
face_high d k j h = (rw (lt-leb (k + j) d h), rw (lt-leb (k + j) d h))

pub record SideAt (d k j : ℕ) : Type 0 where
  pub face : side_face d k j ≤ d
  pub place : side_place d k j < d
  pub pair : side_pair d (side_face d k j) (side_place d k j) ≡ side k j

side_at_lem : (d k j a l : ℕ) → (side_face d k j ≡ a) × (side_place d k j ≡ l) → a ≤ d → l < d →
    side_pair d a l ≡ side k j → SideAt d k j
side_at_lem d k j a l (p, q) ha hl e =
    record { face = rw p ha; place = rw q hl; pair = ap₂ (side_pair d) p q ∙ e }

pub side_of_position : (d k j : ℕ) → k ≤ d → 1 ≤ j → j ≤ d → SideAt d k j
side_of_position d k j hk one hj = go (dec_le (k + j) d)
  where
    go : Dec (k + j ≤ d) → SideAt d k j
    go (yes p) =
        side_at_lem d k j (k + j) k (face-low d k j p) p (omega arith)
        (side-below d (k + j) k (omega arith) ∙ ap (side k) (omega arith))
    go (no p) =
        side_at_lem d k j (k + j - suc d) (k - 1) (face_high d k j (omega arith)) (omega arith) (omega arith)
        (side_from d (k + j - suc d) (k - 1) (omega arith) ∙ same-side (omega arith) (omega arith))

pub record FaceOf (d a l : ℕ) (x : Side) : Type 0 where
  pub face : side_face d x.cell x.position ≡ a
  pub place : side_place d x.cell x.position ≡ l

face_of_lem : (d a l k j a' l' : ℕ) → (side_face d k j ≡ a') × (side_place d k j ≡ l') → a' ≡ a → l' ≡ l → FaceOf d a l (side k j)
face_of_lem d a l k j a' l' (p, q) ea el = record { face = p ∙ ea; place = q ∙ el }

pub face_of_side : (d a l : ℕ) → a ≤ d → l < d → FaceOf d a l (side_pair d a l)
face_of_side d a l ha hl = go (dec_lt l a)
  where
    go : Dec (l < a) → FaceOf d a l (side_pair d a l)
    go (yes p) =
        subst⁻¹ (FaceOf d a l) (side-below d a l p)
        (face_of_lem d a l l (a - l) _ _ (face-low d l (a - l) (omega arith)) (omega arith) refl)
    go (no p) =
        subst⁻¹ (FaceOf d a l) (side_from d a l (omega arith))
        (face_of_lem d a l (suc l) (d + a - l) _ _ (face_high d (suc l) (d + a - l) (omega arith)) (omega arith) (omega arith))
