-- Two cells with the same row, told from their faces: where no face is in three cells, each face of the later one was
-- seen before at the same face of the earlier one. The face at position 0 and the first vertex tell the row.
--   Heads rows cs     record p of rows, eight words each, begins with the first vertex of cell p
use mathlib.Core.Path.{◌≡◌, refl, sym, ap, ap₂, ◌∙◌}
use mathlib.Core.Bool.{Bool, true, false}
use mathlib.Core.List.{List, [], ◌∷◌}
use Prim.Native.Nat.{ℕ, suc, ◌+◌, ◌*◌, ◌/◌, ◌%◌, ◌≤◌, ◌<◌}
use native.Mathlib.Omega.{arith}
use native.Mathlib.Decide.{dec_lt}
use native.Mathlib.Nat.{div-add-mod', mul-le-mul_right}
use lib.Dec.{eqb}
use lib.ListN.{length, get_or}
use borrow.Author.Tests.{eq-eqb, eqb-true}
use Rattle.words.specs.Records.{any_below}
use Rattle.rules.proofs.Tests.{and_parts}
use Rattle.simplex.specs.Cell.{Cell, Row}
use Rattle.simplex.specs.Chain.{total}
use Rattle.simplex.specs.Faces.{facets, without}
use Rattle.simplex.proofs.Each.{All}
use Rattle.simplex.proofs.Rows.{Long, same_rows, same_row_true}
use Rattle.solids.specs.Accept.{cell_twice}
use Rattle.tables.specs.Inner.Pairing.{twin_at}
use Rattle.tables.specs.Inner.Scan.{seen_at}
use Rattle.words.proofs.Below.{below_false, some_below, true_unless}
use Rattle.tables.proofs.FaceKeys.{facet_cell, facets-length, key_inside}
use Rattle.matching.proofs.Quotients.{cell_of_key, place_of_key}
use Rattle.tables.proofs.Repeats.{Prev, and_both, is_seen, seen_is, seen_only}
use Rattle.solids.proofs.Solid.{all_at, row_at}
use Rattle.tables.proofs.Spots.{count_two, on_row, spots, total_counts}
use Rattle.solids.proofs.Tests.{few_of, of_few}

abbrev pub Heads : List ℕ → List Cell → Type 0
Heads rows cs = (p : ℕ) → p < length cs → get_or rows (p * 8) 0 ≡ get_or (row_at cs p) 0 0

-- a row is its first vertex and the rest
rejoin : (n : ℕ) (v w : Row) → length v ≡ suc n → length w ≡ suc n → get_or v 0 0 ≡ get_or w 0 0 → without 0 v ≡ without 0 w → v ≡ w
rejoin n [] w l m e k = absurd (omega arith)
rejoin n (x ∷ v) [] l m e k = absurd (omega arith)
rejoin n (x ∷ v) (y ∷ w) l m e k = ap₂ {C = Row} (λ a b. a ∷ b) e k

module _ (d : ℕ) (rows : List ℕ) (cs : List Cell) (P : List ℕ) (long : All (Long (suc (suc d))) cs) (heads : Heads rows cs)
    (small : length (facets cs) ≤ 32768) (prev : Prev (facets cs) P) (meet : (w : Row) → total w (facets cs) ≤ 2) where
  abbrev k : ℕ
  k = suc (suc d)

  abbrev n : ℕ
  n = length (facets cs)

  face-row : (g : ℕ) → g < n → row_at (facets cs) g ≡ without (g % k) (row_at cs (g / k))
  face-row g h = ap (λ (c : Cell). c.row) (facet_cell (suc d) cs long g h).1

  -- the first face of cell p
  first : (p : ℕ) → p < length cs → (p * k + 0 < n) × (row_at (facets cs) (p * k + 0) ≡ without 0 (row_at cs p))
  first p h =
      let l : p * k + 0 < n = omega (arith, facets-length (suc d) cs long, key_inside k (length cs) p 0 h (omega arith)) in (
        l,
        face-row (p * k + 0) l
            ∙ ap₂ {C = Row} (λ a q. without a (row_at cs q)) (place_of_key p 0 k (omega arith)) (cell_of_key p 0 k (omega arith)),
      )

  found : (g : ℕ) × (g < n) × (twin_at k n rows P g ≡ true) → cell_twice cs ≡ false → ⊥
  found r e =
      let g = r.0 in
      let f = get_or P g 0 in
      let s = and_parts (seen_at n P g) _ r.2 in
      let a = and_parts (eqb (g % k) 0) _ s.1 in
      let b = and_parts (eqb (f % k) 0) _ a.1 in
      let ga : g % k ≡ 0 = eqb-true (g % k) 0 a.0 in
      let fb : f % k ≡ 0 = eqb-true (f % k) 0 b.0 in
      let h = eqb-true (get_or rows (g / k * 8) 0) (get_or rows (f / k * 8) 0) b.1 in
      let seen = seen_is (facets cs) P small prev g r.1 s.0 in
      let hf : f < n = omega (arith, r.1, seen.0) in
      let hp = (facet_cell (suc d) cs long g r.1).0 in
      let hq = (facet_cell (suc d) cs long f hf).0 in
      let p = g / k in
      let q = f / k in
      let less : q < p = before (dec_lt q p) seen.0 ga fb in
      let same : row_at cs q ≡ row_at cs p =
      rejoin (suc d) (row_at cs q) (row_at cs p) (all_at (Long k) cs long q hq) (all_at (Long k) cs long p hp)
      (sym (heads q hq) ∙ sym h ∙ heads p hp)
      (ap (λ a. without a (row_at cs q)) (sym fb) ∙ sym (face-row f hf) ∙ seen.1 ∙ face-row g r.1 ∙ ap (λ a. without a (row_at cs p)) ga) in
      let w = row_at cs p in
      omega (arith, few_of 1 cs e w, total_counts w cs, count_two (on_row w) cs q p less hp (same_rows (row_at cs q) w same) (same_rows w w refl))
    where
      before : {f g : ℕ} → Dec (f / k < g / k) → f < g → g % k ≡ 0 → f % k ≡ 0 → f / k < g / k
      before (yes l) h a b = l
      before {f} {g} (no l) h a b =
          absurd (omega (arith, div-add-mod' f k, div-add-mod' g k, mul-le-mul_right {m = g / k} {n = f / k} k (omega arith)))

  once : any_below n (twin_at k n rows P) ≡ false → (w : Row) → Dec (1 < total w cs) → total w cs ≤ 1
  once e w (no l) = omega arith
  once e w (yes l) =
      let r = spots (on_row w) cs (omega (arith, total_counts w cs)) in
      let q = r.0 in
      let p = r.1 in
      let hq : q < length cs = omega (arith, r.2, r.3) in
      let f = q * k + 0 in
      let g = p * k + 0 in
      let same : row_at cs q ≡ row_at cs p = same_row_true (row_at cs q) w r.4 ∙ sym (same_row_true (row_at cs p) w r.5) in
      let F = first q hq in
      let G = first p r.3 in
      let rows_same : row_at (facets cs) f ≡ row_at (facets cs) g = F.1 ∙ ap (without 0) same ∙ sym G.1 in
      let less : f < g = key_less q p r.2 in
      let is : get_or P g 0 ≡ f = seen_only (facets cs) P small prev meet f g less G.0 rows_same in
      let head : get_or rows (g / k * 8) 0 ≡ get_or rows (f / k * 8) 0 =
      ap (λ i. get_or rows (i * 8) 0) (cell_of_key p 0 k (omega arith)) ∙ heads p r.3 ∙ ap (λ (v : Row). get_or v 0 0) (sym same) ∙ sym (heads q hq)
      ∙ ap (λ i. get_or rows (i * 8) 0) (sym (cell_of_key q 0 k (omega arith))) in
      absurd
      (below_false (twin_at k n rows P) n e g G.0
      (and_both _ _ (is_seen (facets cs) P small prev f g less G.0 rows_same).0
      (and_both _ _ (eq-eqb (g % k) 0 (place_of_key p 0 k (omega arith)))
      (and_both _ _ (eq-eqb (get_or P g 0 % k) 0 (ap (λ i. i % k) is ∙ place_of_key q 0 k (omega arith)))
      (eq-eqb (get_or rows (g / k * 8) 0) (get_or rows (get_or P g 0 / k * 8) 0) (head ∙ ap (λ i. get_or rows (i / k * 8) 0) (sym is)))))))
    where
      key_less : (q p : ℕ) → q < p → q * k + 0 < p * k + 0
      key_less q p h = omega (arith, key_inside k p q 0 h (omega arith))

  pub twins_seen : cell_twice cs ≡ any_below (length (facets cs)) (twin_at (suc (suc d)) (length (facets cs)) rows P)
  twins_seen = go (any_below n (twin_at k n rows P)) refl
    where
      go : (t : Bool) → any_below n (twin_at k n rows P) ≡ t → cell_twice cs ≡ t
      go true e = true_unless _ (found (some_below (twin_at k n rows P) n e))
      go false e = of_few 1 cs (λ w. once e w (dec_lt 1 (total w cs))) cs
