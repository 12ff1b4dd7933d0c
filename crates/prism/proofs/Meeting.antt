-- Which swept cells meet at which faces.
use mathlib.Core.Path.{◌≡◌, refl, sym, ap, ap₂, ◌∙◌, subst}
use mathlib.Core.Logic.{◌⊎◌, inl, inr}
use mathlib.Core.Bool.{true, false≢true}
use mathlib.Core.List.{List, [], ◌∷◌, ◌++◌, append-nil}
use Prim.Native.Nat.{ℕ, zero, suc, ◌+◌, ◌*◌, ◌≤◌, ◌<◌}
use native.Mathlib.Omega.{arith}
use native.Mathlib.Nat.{suc-mul, one-mul, zero-add, mul-le-mul_right, le_of_suc-le-suc, not-suc-le-zero}
use native.Mathlib.Decide.{dec_lt}
use lib.ListN.{length, take, drop}
use borrow.Author.Tests.{eq-eqb}
use Rattle.simplex.specs.Cell.{Cell, Row, filled, one}
use Rattle.simplex.specs.Chain.{total}
use Rattle.simplex.specs.Faces.{all_faces, facets, without}
use Rattle.simplex.proofs.Each.{All}
use Rattle.simplex.proofs.Counts.{one_le, sum_rows_count_faces_zero, sum_rows_zero}
use Rattle.simplex.proofs.FaceCounts.{facets_le, without-filled}
use Rattle.simplex.proofs.Rows.{Below, Filled, Good, Long}
use Rattle.simplex.proofs.Without.{without-length}
use Rattle.solids.specs.Wings.{has_face, neighbour_from}
use Rattle.solids.proofs.Neighbours.{face_in-total, has_face_lem, neighbour-empty, neighbour-none, neighbour-one, others_with, others_with_pick}
use Rattle.solids.proofs.Neighbours.{total-face_in}
use Rattle.solids.proofs.Solid.{Solid, all_at, row_at}
use Rattle.prism.specs.Cells.{sweep_of}
use Rattle.prism.specs.Sides.{side_cell, side_position}
use Rattle.prism.proofs.Decode.{highs_cell, level_of_lem, level_in, lowers, lows_cell, uppers}
use Rattle.prism.proofs.FaceBounds.{base_in, lower_in, upper_in}
use Rattle.prism.proofs.FaceKinds.{Kind, flat_count, inner_count, is_flat, is_inner, is_side, kind_of, on_any, on_bottom, on_top, side_count}
use Rattle.prism.proofs.FaceKinds.{swept_meet}
use Rattle.prism.proofs.Level.{raised}
use Rattle.prism.proofs.PrismCounts.{doubled, rest}
use Rattle.prism.proofs.SweptRows.{below-drop, below-face, below-take, between, drop_non, first-face, last-face, len_cell}
use Rattle.prism.proofs.SweptRows.{len_sweep, mid_bottom, mid_top, num_lt, number_of, pair-face, pair_lt, prism_row, row_num}

-- the row of a cell tells itself
cell_lev : (nv i : ℕ) (l u : Row) → Below nv l → Filled l → level_in nv (raised (i * nv) l ++ raised (suc i * nv) u) ≡ i
cell_lev nv i [] u b n = absurd n
cell_lev nv i (x ∷ l) u b n = level_of_lem nv x i b.0

cell_lo : (nv i : ℕ) (l u : Row) → Below nv l → Below nv u → Filled l → lower_in nv (raised (i * nv) l ++ raised (suc i * nv) u) ≡ l
cell_lo nv i l u bl bu n = ap (λ j. lowers nv j (raised (i * nv) l ++ raised (suc i * nv) u)) (cell_lev nv i l u bl n) ∙ lows_cell nv i l u bl bu

cell_hi : (nv i : ℕ) (l u : Row) → Below nv l → Below nv u → Filled l → upper_in nv (raised (i * nv) l ++ raised (suc i * nv) u) ≡ u
cell_hi nv i l u bl bu n = ap (λ j. uppers nv j (raised (i * nv) l ++ raised (suc i * nv) u)) (cell_lev nv i l u bl n) ∙ highs_cell nv i l u bl bu

doubled_cell : (k : ℕ) (v : Row) → k < length v → doubled (drop k v) (take (suc k) v) ≡ true
doubled_cell k [] h = absurd (not-suc-le-zero h)
doubled_cell zero (x ∷ v) h = eq-eqb x x refl
doubled_cell (suc k) (x ∷ []) h = absurd (not-suc-le-zero (le_of_suc-le-suc h))
doubled_cell (suc k) (x ∷ y ∷ v) h = doubled_cell k (y ∷ v) (le_of_suc-le-suc h)

join_cell : (k : ℕ) (v : Row) → k < length v → take (suc k) v ++ rest (drop k v) ≡ v
join_cell k [] h = absurd (not-suc-le-zero h)
join_cell zero (x ∷ v) h = refl
join_cell (suc k) (x ∷ v) h = ap {B = Row} (λ r. x ∷ r) (join_cell k v (le_of_suc-le-suc h))

module _ (nv d h : ℕ) (cs : List Cell) (s : Solid nv cs) (ln : All (Long (suc d)) cs) where
  abbrev T : List Cell
  T = sweep_of nv h cs

  abbrev S : ℕ
  S = length cs

  abbrev nu : ℕ → ℕ → ℕ → ℕ
  nu i p k = number_of nv (suc d) S i p k

  -- row k of the prism over cell p at level i
  abbrev row : ℕ → ℕ → ℕ → Row
  row i p k = prism_row (i * nv) (suc i * nv) k (row_at cs p)

  -- wing j of that cell
  abbrev wing : ℕ → ℕ → ℕ → ℕ → ℕ
  wing i p k j = neighbour_from (nu i p k) 0 (without j (row_at T (nu i p k))) T

  -- it is in the sweep
  record In (i p k j : ℕ) : Type 0 where
    level : i < h
    base : p < S
    cell : k < suc d
    place : j < suc (suc d)

  row_at_lem : (i p k j : ℕ) → In i p k j → row_at T (nu i p k) ≡ row i p k
  row_at_lem i p k j n = row_num nv (suc d) h i p k cs ln n.level n.base n.cell

  lt_t : (i p k j : ℕ) → In i p k j → nu i p k < length T
  lt_t i p k j n = omega (arith, num_lt nv (suc d) h S i p k n.level n.base n.cell, len_sweep nv (suc d) h cs ln)

  v_len : (p : ℕ) → p < S → length (row_at cs p) ≡ suc d
  v_len p hp = all_at (Long (suc d)) cs ln p hp

  -- it has its face j
  has : (i p k j : ℕ) → In i p k j → has_face (without j (row_at T (nu i p k))) (row_at T (nu i p k)) ≡ true
  has i p k j n =
      let l : length (row_at T (nu i p k)) ≡ suc (suc d) =
      ap length (row_at_lem i p k j n) ∙ len_cell (i * nv) (suc i * nv) k (suc d) (row_at cs p) (v_len p n.base) n.cell in
      has_face_lem j (row_at T (nu i p k)) (omega (arith, n.place)) (omega arith)

  -- other cells with the face w
  others : (c : ℕ) (w : Row) → c < length T → has_face w (row_at T c) ≡ true → suc (others_with c 0 w T) ≤ total w (all_faces T)
  others c w hc ec = omega (arith, face_in-total w T, others_with_pick c 0 w T hc, ap one ec, ap (λ m. others_with m 0 w T) (zero-add c))

  -- faces that are equal make wings
  meet : (i p k j i' p' k' j' : ℕ) → In i p k j → In i' p' k' j' → (nu i p k ≡ nu i' p' k' → ⊥) →
      without j (row i p k) ≡ without j' (row i' p' k') → wing i p k j ≡ nu i' p' k'
  meet i p k j i' p' k' j' n n' apart e =
      let w : Row = without j (row_at T (nu i p k)) in
      let f : without j' (row_at T (nu i' p' k')) ≡ w =
      ap (without j') (row_at_lem i' p' k' j' n') ∙ sym e ∙ sym (ap (without j) (row_at_lem i p k j n)) in
      neighbour-one (nu i p k) 0 (nu i' p' k') w T
      (omega (arith, swept_meet nv cs s h w, others (nu i p k) w (lt_t i p k j n) (has i p k j n)))
      (lt_t i' p' k' j' n') (λ e. apart (omega arith))
      (subst (λ w. has_face w (row_at T (nu i' p' k')) ≡ true) f (has i' p' k' j' n'))
      ∙ zero-add (nu i' p' k')

  -- a face alone
  none : (i p k j : ℕ) (w : Row) → In i p k j → without j (row i p k) ≡ w → total w (all_faces T) ≤ 1 → wing i p k j ≡ 65535
  none i p k j w n e l =
      let f : without j (row_at T (nu i p k)) ≡ w = ap (without j) (row_at_lem i p k j n) ∙ e in
      neighbour-none (nu i p k) 0 (without j (row_at T (nu i p k))) T
      (omega (arith, others (nu i p k) (without j (row_at T (nu i p k))) (lt_t i p k j n) (has i p k j n), ap (λ w. total w (all_faces T)) f))

  last : (i p k : ℕ) → p < S → k < suc d → without (suc d) (row i p k) ≡ between (i * nv) (suc i * nv) k (row_at cs p)
  last i p k hp hk =
      ap (λ m. without m (row i p k)) (sym (v_len p hp)) ∙ last-face (i * nv) (suc i * nv) k (row_at cs p) (omega (arith, v_len p hp))

  first : (i p k : ℕ) → p < S → k < suc d → without 0 (row i p k) ≡ between (i * nv) (suc i * nv) (suc k) (row_at cs p)
  first i p k hp hk = first-face (i * nv) (suc i * nv) k (row_at cs p) (omega (arith, v_len p hp))

  top-face : (i p : ℕ) → p < S → without 0 (row i p d) ≡ raised (suc i * nv) (row_at cs p)
  top-face i p hp = first i p d hp (omega arith) ∙ ap (λ m. between (i * nv) (suc i * nv) m (row_at cs p)) (sym (v_len p hp))
      ∙ mid_top (i * nv) (suc i * nv) (row_at cs p)

  bottom-face : (i p : ℕ) → p < S → without (suc d) (row i p 0) ≡ raised (i * nv) (row_at cs p)
  bottom-face i p hp = last i p 0 hp (omega arith) ∙ mid_bottom (i * nv) (suc i * nv) (row_at cs p)

  within : {i p k j : ℕ} → i < h → p < S → k < suc d → j < suc (suc d) → In i p k j
  within a b c e = record { level = a; base = b; cell = c; place = e }

  pub inner_next : (i p k : ℕ) → i < h → p < S → k < d → wing i p k 0 ≡ nu i p (suc k)
  inner_next i p k hi hp hk =
      meet i p k 0 i p (suc k) (suc d) (within hi hp (omega arith) (omega arith)) (within hi hp (omega arith) (omega arith)) (λ e. omega arith)
      (first i p k hp (omega arith) ∙ sym (last i p (suc k) hp (omega arith)))

  pub inner_prev : (i p k : ℕ) → i < h → p < S → k < d → wing i p (suc k) (suc d) ≡ nu i p k
  inner_prev i p k hi hp hk =
      meet i p (suc k) (suc d) i p k 0 (within hi hp (omega arith) (omega arith)) (within hi hp (omega arith) (omega arith)) (λ e. omega arith)
      (last i p (suc k) hp (omega arith) ∙ sym (first i p k hp (omega arith)))

  apart : (i p : ℕ) → p < S → nu i p d ≡ nu (suc i) p 0 → ⊥
  apart i p hp e = omega (arith, suc-mul i (S * suc d), mul-le-mul_right {m = 1} {n = S} (suc d) (omega arith), one-mul (suc d))

  pub level_next : (i p : ℕ) → suc i < h → p < S → wing i p d 0 ≡ nu (suc i) p 0
  level_next i p hi hp =
      meet i p d 0 (suc i) p 0 (suc d) (within (omega arith) hp (omega arith) (omega arith)) (within hi hp (omega arith) (omega arith)) (apart i p hp)
      (top-face i p hp ∙ sym (bottom-face (suc i) p hp))

  pub level_prev : (i p : ℕ) → suc i < h → p < S → wing (suc i) p 0 (suc d) ≡ nu i p d
  level_prev i p hi hp =
      meet (suc i) p 0 (suc d) i p d 0 (within hi hp (omega arith) (omega arith)) (within (omega arith) hp (omega arith) (omega arith))
      (λ e. apart i p hp (sym e)) (bottom-face (suc i) p hp ∙ sym (top-face i p hp))

  apart-side : (i p q k k' : ℕ) → k < suc d → k' < suc d → p < q → nu i p k ≡ nu i q k' → ⊥
  apart-side i p q k k' hk hk' l e = omega (arith, suc-mul p (suc d), mul-le-mul_right {m = suc p} {n = q} (suc d) l)

  -- the l-th cell and position of side a
  within-side : (i p a l : ℕ) → i < h → p < S → a ≤ d → l < d → In i p (side_cell a l) (side_position d a l)
  within-side i p a l hi hp ha hl = let r = pair_lt d a l ha hl in within hi hp r.0 r.1

  pub side_meet : (i p q a b l : ℕ) → i < h → p < S → q < S → (p ≡ q → ⊥) → a ≤ d → b ≤ d → l < d →
      without a (row_at cs p) ≡ without b (row_at cs q) →
      wing i p (side_cell a l) (side_position d a l) ≡ nu i q (side_cell b l)
  side_meet i p q a b l hi hp hq filled ha hb hl e =
      meet i p (side_cell a l) (side_position d a l) i q (side_cell b l) (side_position d b l) m n (go (dec_lt p q))
      (pair-face (i * nv) (suc i * nv) d a l (row_at cs p) (v_len p hp) ha hl ∙ ap (prism_row (i * nv) (suc i * nv) l) e
      ∙ sym (pair-face (i * nv) (suc i * nv) d b l (row_at cs q) (v_len q hq) hb hl))
    where
      m : In i p (side_cell a l) (side_position d a l)
      m = within-side i p a l hi hp ha hl

      n : In i q (side_cell b l) (side_position d b l)
      n = within-side i q b l hi hq hb hl

      go : Dec (p < q) → nu i p (side_cell a l) ≡ nu i q (side_cell b l) → ⊥
      go (yes z) x = apart-side i p q (side_cell a l) (side_cell b l) m.cell n.cell z x
      go (no z) x = apart-side i q p (side_cell b l) (side_cell a l) n.cell m.cell (omega arith) (sym x)

  copy_few : (i p : ℕ) → p < S → (i ≡ 0) ⊎ (i ≡ h) → total (raised (i * nv) (row_at cs p)) (all_faces T) ≤ 1
  copy_few i p hp c =
      omega (
        arith,
        go c,
        ap (inner_count cs (lower_in nv w)) hi0,
        sum_rows_zero cs,
        ap (side_count cs (lower_in nv w)) hi0,
        sum_rows_count_faces_zero cs,
        ap (flat_count cs (lower_in nv w)) hi0,
        s.distinct (lower_in nv w),
      )
    where
      g : Good nv (row_at cs p)
      g = all_at (Good nv) cs s.rows p hp

      w : Row
      w = raised (i * nv) (row_at cs p)

      lv : level_in nv w ≡ i
      lv = ap (level_in nv) (sym (append-nil w)) ∙ cell_lev nv i (row_at cs p) [] g.1 g.0

      hi0 : upper_in nv w ≡ []
      hi0 = ap (upper_in nv) (sym (append-nil w)) ∙ cell_hi nv i (row_at cs p) [] g.1 tt g.0

      go : (i ≡ 0) ⊎ (i ≡ h) → total w (all_faces T)
          ≤ inner_count cs (lower_in nv w) (upper_in nv w) + inner_count cs (lower_in nv w) (upper_in nv w)
          + side_count cs (lower_in nv w) (upper_in nv w) + flat_count cs (lower_in nv w) (upper_in nv w)
      go (inl z) = on_bottom nv cs s h w (lv ∙ z)
      go (inr z) = omega (arith, on_top nv cs s h w (lv ∙ z))

  pub bottom-none : (p : ℕ) → 0 < h → p < S → wing 0 p 0 (suc d) ≡ 65535
  bottom-none p hi hp =
      none 0 p 0 (suc d) _ (within hi hp (omega arith) (omega arith)) (bottom-face 0 p hp) (copy_few 0 p hp (inl refl))

  pub top-none : (i p : ℕ) → suc i ≡ h → p < S → wing i p d 0 ≡ 65535
  top-none i p hi hp =
      none i p d 0 _ (within (omega arith) hp (omega arith) (omega arith)) (top-face i p hp) (copy_few (suc i) p hp (inr hi))

  side-few : (i l : ℕ) (u : Row) → Below nv u → l < length u → total u (facets cs) ≤ 1 →
      total (prism_row (i * nv) (suc i * nv) l u) (all_faces T) ≤ 1
  side-few i l u bu hl few = go (kind_of nv cs s (lower_in nv w) (upper_in nv w))
    where
      w : Row
      w = prism_row (i * nv) (suc i * nv) l u

      lo0 : lower_in nv w ≡ drop l u
      lo0 = cell_lo nv i (drop l u) (take (suc l) u) (below-drop nv l u bu) (below-take nv (suc l) u bu) (drop_non l u hl)

      hi0 : upper_in nv w ≡ take (suc l) u
      hi0 = cell_hi nv i (drop l u) (take (suc l) u) (below-drop nv l u bu) (below-take nv (suc l) u bu) (drop_non l u hl)

      dw : doubled (lower_in nv w) (upper_in nv w) ≡ true
      dw = ap₂ doubled lo0 hi0 ∙ doubled_cell l u hl

      jw : base_in nv w ≡ u
      jw = ap₂ {C = Row} (λ a b. b ++ rest a) lo0 hi0 ∙ join_cell l u hl

      go : Kind cs (lower_in nv w) (upper_in nv w) → total w (all_faces T) ≤ 1
      go (is_flat e i k f) = absurd (false≢true (sym (ap (doubled (lower_in nv w)) e) ∙ dw))
      go (is_side e i k f) = omega (arith, on_any nv cs s h w, ap (λ u. total u (facets cs)) jw)
      go (is_inner e i k f) = absurd (false≢true (sym e ∙ dw))

  lone_base : (p a : ℕ) → 1 ≤ d → p < S → a ≤ d → S ≤ 65535 →
      neighbour_from p 0 (without a (row_at cs p)) cs ≡ 65535 → total (without a (row_at cs p)) (facets cs) ≤ 1
  lone_base p a hd hp ha small e =
      let u : Row = without a (row_at cs p) in
      omega (
        arith,
        facets_le u cs,
        total-face_in u cs (without-filled a (row_at cs p) (omega (arith, v_len p hp)) (omega (arith, v_len p hp))) s.asc,
        others_with_pick p 0 u cs hp,
        ap (λ m. others_with m 0 u cs) (zero-add p),
        neighbour-empty p 0 u cs (omega arith) e,
        one_le (has_face u (row_at cs p)),
      )

  pub side-none : (i p a l : ℕ) → i < h → p < S → a ≤ d → l < d → S ≤ 65535 →
      neighbour_from p 0 (without a (row_at cs p)) cs ≡ 65535 →
      wing i p (side_cell a l) (side_position d a l) ≡ 65535
  side-none i p a l hi hp ha hl small e =
      none i p (side_cell a l) (side_position d a l) _ (within-side i p a l hi hp ha hl)
      (pair-face (i * nv) (suc i * nv) d a l (row_at cs p) (v_len p hp) ha hl)
      (side-few i l (without a (row_at cs p)) (below-face nv a (row_at cs p) (all_at (Good nv) cs s.rows p hp).1)
      (omega (arith, without-length a (row_at cs p) (omega (arith, v_len p hp)), v_len p hp)) (lone_base p a (omega arith) hp ha small e))
