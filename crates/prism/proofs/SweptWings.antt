-- The wing that the rule gives is the neighbour told from the swept cells, at each cell and position.
use mathlib.Core.Path.{◌≡◌, ap, ap₂, refl, sym, ◌∙◌}
use Prim.Native.Nat.{◌+◌, ◌-◌, ◌<◌, suc, zero, ℕ, ◌≤◌}
use mathlib.Core.Bool.{Bool, cond, false, true}
use mathlib.Core.List.{List}
use native.Mathlib.Omega.{arith}
use borrow.Author.Tests.{eq-eqb, eqb-false, eqb-true, le-ltb, leb-false, leb-true, lt-ltb, ltb-false, ltb-true, ne_eqb}
use lib.Dec.{eqb, leb, ltb}
use lib.ListN.{length}
use native.Mathlib.Decide.{ℕ_discrete}
use mathlib.Core.Logic.{◌≢◌}
use Rattle.simplex.specs.Cell.{Cell}
use Rattle.simplex.specs.Faces.{without}
use Rattle.simplex.proofs.Each.{All}
use Rattle.simplex.proofs.Rows.{Long}
use Rattle.solids.specs.Wings.{neighbour, neighbour_from}
use Rattle.solids.proofs.Solid.{Solid, row_at}
use Rattle.solids.proofs.Symmetric.{wings_symmetric}
use Rattle.prism.specs.Cells.{sweep_of}
use Rattle.prism.specs.Sides.{side_cell, side_face, side_place, side_position}
use Rattle.prism.specs.Wings.{back_from, back_to, cell_number, swept_wing, wing_aside}
use Rattle.prism.proofs.Meeting.{bottom-none, inner_next, inner_prev, level_next, level_prev, side_meet, side-none, top-none}

pub back_is : (W : ℕ → ℕ → ℕ) (p q n b c : ℕ) → W q c ≡ p → b ≤ c → c < b + n →
    ((m : ℕ) → m < c → W q m ≡ p → ⊥) → back_from W p q b n ≡ c
back_is W p q zero b c e l h u = absurd (omega arith)
back_is W p q (suc n) b c e l h u = go (ℕ_discrete b c) (λ k. back_is W p q n (suc b) c e k (omega arith) u)
  where
    go : Dec (b ≡ c) → (suc b ≤ c → back_from W p q (suc b) n ≡ c) → cond (eqb (W q b) p) b (back_from W p q (suc b) n) ≡ c
    go (yes z) k = rw (eq-eqb (W q b) p (ap (W q) z ∙ e)) z
    go (no z) k = rw (ne_eqb (W q b) p (u b (omega arith))) (k (omega arith))

module _ (nv d h : ℕ) (cs : List Cell) (s : Solid nv cs) (ln : All (Long (suc d)) cs) (small : length cs ≤ 65535) where
  abbrev W : ℕ → ℕ → ℕ
  W p a = neighbour p (without a (row_at cs p)) cs

  abbrev T : List Cell
  T = sweep_of nv h cs

  abbrev S : ℕ
  S = length cs

  abbrev nu : ℕ → ℕ → ℕ → ℕ
  nu i p k = cell_number d S i p k

  -- the wing of a swept cell, told
  abbrev tw : ℕ → ℕ → ℕ → ℕ → ℕ
  tw i p k j = neighbour_from (nu i p k) 0 (without j (row_at T (nu i p k))) T

  side_is : (i p a l : ℕ) → i < h → p < S → a ≤ d → l < d → tw i p (side_cell a l) (side_position d a l) ≡ wing_aside d S h W i p a l
  side_is i p a l hi hp ha hl = go (eqb (W p a) 65535) refl
    where
      go : (t : Bool) → eqb (W p a) 65535 ≡ t →
          tw i p (side_cell a l) (side_position d a l) ≡ cond t 65535 (nu i (W p a) (side_cell (back_to W p (W p a) d) l))
      go true e = side-none nv d h cs s ln i p a l hi hp ha hl small (eqb-true (W p a) 65535 e)
      go false e =
          let r = wings_symmetric nv d cs s ln small p a hp ha (eqb-false (W p a) 65535 e) in
          let b : back_to W p (W p a) d ≡ r.0 = back_is W p (W p a) (suc d) 0 r.0 r.5 (omega arith) (omega (arith, r.3)) r.6 in
          side_meet nv d h cs s ln i p (W p a) a r.0 l hi hp r.1 r.2 ha r.3 hl r.4
          ∙ ap (nu i (W p a)) (ap (λ b. side_cell b l) (sym b))

  pub wings_are : (i p k j : ℕ) → i < h → p < S → k ≤ d → j ≤ suc d → tw i p k j ≡ swept_wing d S h W i p k j
  wings_are i p k j hi hp hk hj = go0 (eqb j 0) refl
    where
      top : (t : Bool) → eqb (suc i) h ≡ t → tw i p d 0 ≡ cond t 65535 (nu (suc i) p 0)
      top true e = top-none nv d h cs s ln i p (eqb-true (suc i) h e) hp
      top false e = let z : suc i ≢ h = eqb-false (suc i) h e in level_next nv d h cs s ln i p (omega arith) hp

      go_a : (t : Bool) → ltb k d ≡ t → tw i p k 0 ≡ cond t (nu i p (suc k)) (cond (eqb (suc i) h) 65535 (nu (suc i) p 0))
      go_a true e = inner_next nv d h cs s ln i p k hi hp (ltb-true k d e)
      go_a false e = let z : d ≤ k = ltb-false k d e in ap (λ k. tw i p k 0) (omega arith) ∙ top (eqb (suc i) h) refl

      bot : (t : Bool) → eqb i 0 ≡ t → tw i p 0 (suc d) ≡ cond t 65535 (nu (i - 1) p d)
      bot true e = ap (λ i. tw i p 0 (suc d)) (eqb-true i 0 e) ∙ bottom-none nv d h cs s ln p (omega arith) hp
      bot false e =
          let z : i ≢ 0 = eqb-false i 0 e in
          let y : i ≡ suc (i - 1) = omega arith in
          ap (λ i. tw i p 0 (suc d)) y ∙ level_prev nv d h cs s ln (i - 1) p (omega arith) hp

      go_b : (t : Bool) → eqb k 0 ≡ t → tw i p k (suc d) ≡ cond t (cond (eqb i 0) 65535 (nu (i - 1) p d)) (nu i p (k - 1))
      go_b true e = ap (λ k. tw i p k (suc d)) (eqb-true k 0 e) ∙ bot (eqb i 0) refl
      go_b false e =
          let z : k ≢ 0 = eqb-false k 0 e in
          let y : k ≡ suc (k - 1) = omega arith in
          ap (λ k. tw i p k (suc d)) y ∙ inner_prev nv d h cs s ln i p (k - 1) hi hp (omega arith)

      go_c : (t : Bool) → leb (k + j) d ≡ t → j ≢ 0 → j ≢ suc d →
          tw i p k j ≡ wing_aside d S h W i p (cond t (k + j) (k + j - suc d)) (cond t k (k - 1))
      go_c true e n m =
          let z : k + j ≤ d = leb-true (k + j) d e in
          let x : ltb k (k + j) ≡ true = lt-ltb k (k + j) (omega arith) in
          let ek : k ≡ side_cell (k + j) k = rw x refl in
          let ej : j ≡ side_position d (k + j) k = rw x (omega arith) in
          ap₂ (tw i p) ek ej ∙ side_is i p (k + j) k hi hp z (omega arith)
      go_c false e n m =
          let z : d < k + j = leb-false (k + j) d e in
          let x : ltb (k - 1) (k + j - suc d) ≡ false = le-ltb (k - 1) (k + j - suc d) (omega arith) in
          let ek : k ≡ side_cell (k + j - suc d) (k - 1) = rw x (omega arith) in
          let ej : j ≡ side_position d (k + j - suc d) (k - 1) = rw x (omega arith) in
          ap₂ (tw i p) ek ej ∙ side_is i p (k + j - suc d) (k - 1) hi hp (omega arith) (omega arith)

      go1 : (t : Bool) → eqb j (suc d) ≡ t → j ≢ 0 →
          tw i p k j ≡ cond t (cond (eqb k 0) (cond (eqb i 0) 65535 (nu (i - 1) p d)) (nu i p (k - 1)))
          (wing_aside d S h W i p (side_face d k j) (side_place d k j))
      go1 true e n = ap (tw i p k) (eqb-true j (suc d) e) ∙ go_b (eqb k 0) refl
      go1 false e n = go_c (leb (k + j) d) refl n (eqb-false j (suc d) e)

      go0 : (t : Bool) → eqb j 0 ≡ t → tw i p k j ≡ cond t (cond (ltb k d) (nu i p (suc k)) (cond (eqb (suc i) h) 65535 (nu (suc i) p 0)))
          (cond (eqb j (suc d)) (cond (eqb k 0) (cond (eqb i 0) 65535 (nu (i - 1) p d)) (nu i p (k - 1)))
          (wing_aside d S h W i p (side_face d k j) (side_place d k j)))
      go0 true e = ap (tw i p k) (eqb-true j 0 e) ∙ go_a (ltb k d) refl
      go0 false e = go1 (eqb j (suc d)) refl (eqb-false j 0 e)
