-- Wings are symmetric: across a wing lies a cell with the same face, and its wing there leads back, at that position alone.
--   Across p a q      cell q lies across face a of cell p
use mathlib.Core.Path.{◌≡◌, ap, subst, sym, ◌∙◌}
use Prim.Native.Nat.{◌+◌, ◌<◌, suc, zero, ℕ, ◌≤◌}
use mathlib.Core.List.{List, [], ◌∷◌}
use native.Mathlib.Omega.{arith}
use native.Mathlib.Decide.{dec_lt}
use mathlib.Core.Bool.{false≢true, true}
use native.Mathlib.Nat.{le_of_suc-le-suc, not-suc-le-zero, zero-add}
use lib.ListN.{length}
use Rattle.records.specs.Layout.{empty}
use Rattle.simplex.specs.Cell.{Cell, Row, filled, one, same_row}
use Rattle.simplex.specs.Chain.{sum_rows}
use Rattle.simplex.specs.Faces.{without}
use Rattle.simplex.specs.Sort.{Asc}
use Rattle.simplex.proofs.Each.{All}
use Rattle.simplex.proofs.Rows.{Long, hits, same_row_refl}
use Rattle.simplex.proofs.Without.{two_faces}
use Rattle.solids.specs.Wings.{has_face, neighbour}
use Rattle.solids.proofs.Neighbours.{Wing, face_in-facets, has_face_lem, has_filled, has_is, neighbour_is, neighbour-one, others_with}
use Rattle.solids.proofs.Neighbours.{others_with_pick}
use Rattle.solids.proofs.Solid.{Solid, all_at, row_at}

pub sum_rows-one : (g : Row → ℕ) (q : ℕ) (cs : List Cell) → q < length cs → g (row_at cs q) ≤ sum_rows g cs
sum_rows-one g q [] h = absurd (not-suc-le-zero h)
sum_rows-one g zero (c ∷ cs) h = omega arith
sum_rows-one g (suc q) (c ∷ cs) h = omega (arith, sum_rows-one g q cs (le_of_suc-le-suc h))

sum_rows_two : (g : Row → ℕ) (p q : ℕ) (cs : List Cell) → p < q → q < length cs → g (row_at cs p) + g (row_at cs q) ≤ sum_rows g cs
sum_rows_two g p q [] l h = absurd (not-suc-le-zero h)
sum_rows_two g p zero (c ∷ cs) l h = absurd (not-suc-le-zero l)
sum_rows_two g zero (suc q) (c ∷ cs) l h = omega (arith, sum_rows-one g q cs (le_of_suc-le-suc h))
sum_rows_two g (suc p) (suc q) (c ∷ cs) l h = omega (arith, sum_rows_two g p q cs (le_of_suc-le-suc l) (le_of_suc-le-suc h))

-- a face with a vertex is one of a cell with two
filled-length : (a : ℕ) (w : Row) → filled (without a w) ≡ true → a < length w → 2 ≤ length w
filled-length a [] e h = absurd (not-suc-le-zero h)
filled-length zero (x ∷ []) e h = absurd (false≢true e)
filled-length (suc a) (x ∷ []) e h = absurd (not-suc-le-zero (le_of_suc-le-suc h))
filled-length a (x ∷ (y ∷ w)) e h = omega arith

module _ (nv d : ℕ) (cs : List Cell) (solid : Solid nv cs) (long : All (Long (suc d)) cs) where
  -- wing a of cell p
  abbrev pub wing : ℕ → ℕ → ℕ
  wing p a = neighbour p (without a (row_at cs p)) cs

  row-length : (p : ℕ) → p < length cs → length (row_at cs p) ≡ suc d
  row-length p hp = all_at (Long (suc d)) cs long p hp

  rows_apart : (p q : ℕ) → p < length cs → q < length cs → (p ≡ q → ⊥) → row_at cs p ≡ row_at cs q → ⊥
  rows_apart p q hp hq apart e = go (dec_lt p q)
    where
      at_p : one (same_row (row_at cs p) (row_at cs p)) ≡ 1
      at_p = ap one (same_row_refl (row_at cs p))

      at_q : one (same_row (row_at cs q) (row_at cs p)) ≡ 1
      at_q = ap (λ v. one (same_row v (row_at cs p))) (sym e) ∙ at_p

      go : Dec (p < q) → ⊥
      go (yes l) = omega (arith, sum_rows_two (hits (row_at cs p)) p q cs l hq, solid.distinct (row_at cs p), at_p, at_q)
      go (no l) = omega (arith, sum_rows_two (hits (row_at cs p)) q p cs (omega arith) hp, solid.distinct (row_at cs p), at_p, at_q)

  -- two cells with one face are neighbours there
  pub neighbour_at : (p q : ℕ) (w : Row) → p < length cs → q < length cs → (p ≡ q → ⊥) →
      has_face w (row_at cs p) ≡ true → has_face w (row_at cs q) ≡ true → neighbour p w cs ≡ q
  neighbour_at p q w hp hq apart ep eq =
      neighbour-one p 0 q w cs
      (omega (
        arith,
        solid.meet w,
        face_in-facets w cs (has_filled w (row_at cs p) ep),
        others_with_pick p 0 w cs hp,
        ap one ep,
        ap (λ m. others_with m 0 w cs) (zero-add p),
      ))
      hq (λ e. apart (omega arith)) eq
      ∙ zero-add q

  abbrev pub Across : ℕ → ℕ → ℕ → Type 0
  Across p a q =
      (b : ℕ) × (q < length cs) × (p ≡ q → ⊥) × (b ≤ d) × (without a (row_at cs p) ≡ without b (row_at cs q))
      × (wing q b ≡ p) × ((m : ℕ) → m < b → wing q m ≡ p → ⊥)

  module _ (small : length cs ≤ empty) where
    -- two cells share one face at most
    only : (p a q b m : ℕ) → p < length cs → a ≤ d → q < length cs → (p ≡ q → ⊥) →
        b ≤ d → without b (row_at cs q) ≡ without a (row_at cs p) → m < b → wing q m ≡ p → ⊥
    only p a q b m hp ha hq pq hb f l e = go (neighbour_is q 0 (without m (row_at cs q)) cs (λ z. omega arith))
      where
        two : (z : ℕ) × (z < length (row_at cs p)) × (without z (row_at cs p) ≡ without m (row_at cs q)) → ⊥
        two r =
            rows_apart q p hq hp (λ z. pq (sym z))
            (two_faces (row_at cs q) (row_at cs p) m b r.0 a (all_at Asc cs solid.asc q hq) (all_at Asc cs solid.asc p hp) l
            (omega (arith, row-length q hq)) r.1 (omega (arith, row-length p hp)) (sym r.2) f)

        go : Wing q 0 (without m (row_at cs q)) cs (wing q m) → ⊥
        go r = two (has_is (without m (row_at cs q)) (row_at cs p)
            (subst (λ k. has_face (without m (row_at cs q)) (row_at cs k) ≡ true) (omega arith) r.4))

    across_at : (p a q : ℕ) → 1 ≤ d → p < length cs → a ≤ d → q < length cs → (p ≡ q → ⊥) →
        (b : ℕ) × (b < length (row_at cs q)) × (without b (row_at cs q) ≡ without a (row_at cs p)) → Across p a q
    across_at p a q hd hp ha hq pq r =
        let b = r.0 in
        let hb : b ≤ d = omega (arith, row-length q hq) in
        let e : wing q b ≡ p =
        neighbour_at q p (without b (row_at cs q)) hq hp (λ z. pq (sym z)) (has_face_lem b (row_at cs q) r.1 (omega (arith, row-length q hq)))
        (subst (λ w. has_face w (row_at cs p) ≡ true) (sym r.2)
        (has_face_lem a (row_at cs p) (omega (arith, row-length p hp)) (omega (arith, row-length p hp)))) in
        (b, hq, pq, hb, sym r.2, e, (λ m l. only p a q b m hp ha hq pq hb r.2 l))

    pub wings_symmetric : (p a : ℕ) → p < length cs → a ≤ d → (wing p a ≡ empty → ⊥) → Across p a (wing p a)
    wings_symmetric p a hp ha full = go (neighbour_is p 0 (without a (row_at cs p)) cs full)
      where
        go : Wing p 0 (without a (row_at cs p)) cs (wing p a) → Across p a (wing p a)
        go r =
            let two : 2 ≤ length (row_at cs p) =
            filled-length a (row_at cs p) (has_filled (without a (row_at cs p)) (row_at cs r.0) r.4) (omega (arith, row-length p hp)) in
            subst (Across p a) (sym (r.2 ∙ zero-add r.0))
            (across_at p a r.0 (omega (arith, row-length p hp)) hp ha r.1
            (λ z. r.3 (omega arith)) (has_is (without a (row_at cs p)) (row_at cs r.0) r.4))
