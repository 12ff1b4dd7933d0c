-- The cells of a table that is fine, linked and apart are a solid, of dimension 1 or above.
--   cells_in d s ws        the cells of the table
--   solid                 they are a solid
--   wing_is               each wing is the neighbour told from the cells
-- Assumes nothing.
use mathlib.Core.Path.{◌≡◌, sym, ap, ◌∙◌, subst}
use mathlib.Core.Logic.{◌⊎◌, ◌≢◌, inl, inr}
use mathlib.Core.Bool.{true, false}
use mathlib.Core.List.{List, [], ◌∷◌}
use Prim.Native.Nat.{ℕ, suc, ◌+◌, ◌*◌, ◌/◌, ◌%◌, ◌≤◌, ◌<◌}
use native.Mathlib.Omega.{arith}
use native.Mathlib.Decide.{dec_lt, ℕ_discrete}
use native.Mathlib.Nat.{div-add-mod', mod-lt, zero-add}
use lib.Dec.{leb}
use lib.ListN.{length, get_or}
use borrow.Author.Tests.{eqb-false, lt-leb}
use Rattle.words.specs.Records.{tabulate, any_of}
use Rattle.words.proofs.Records.{tabulate_at, tabulate-length}
use Rattle.rules.specs.Limits.{max_material}
use Rattle.rules.proofs.Tests.{and_parts}
use Rattle.simplex.specs.Cell.{Cell, Row, Sign, no_cell, one, alternating, times}
use Rattle.simplex.specs.Chain.{total}
use Rattle.simplex.specs.Faces.{facets, without}
use Rattle.simplex.specs.Sort.{Asc}
use Rattle.simplex.specs.SignWords.{sign_of, sign_word}
use Rattle.simplex.proofs.Ascending.{ascending_of_asc}
use Rattle.simplex.proofs.Cancel.{plus-minus}
use Rattle.simplex.proofs.Each.{All, All_both}
use Rattle.simplex.proofs.Rows.{Good, Below, Filled, Long, same_row_true}
use Rattle.simplex.proofs.Signs.{times-same}
use Rattle.simplex.proofs.Sums.{plus_on, sum_chain}
use Rattle.records.specs.Layout.{empty, entry_in, table_length}
use Rattle.records.specs.Inner.Inside.{sign_in, vertex_in, wing_in}
use Rattle.records.proofs.Places.{record_long, row-long, sign_at_lem}
use Rattle.solids.specs.Wings.{has_face, neighbour}
use Rattle.solids.proofs.Neighbours.{has_face_lem, has_is, neighbour-empty, neighbour_is, others_with_ge}
use Rattle.solids.proofs.Solid.{Solid, row_at, all_at, all_tabulated, each_tabulated}
use Rattle.solids.proofs.Tables.{cell_at}
use Rattle.solids.proofs.Tests.{all_below, of_none}
use Rattle.tables.proofs.FaceKeys.{facet_cell}
use Rattle.tables.proofs.SortedTests.{beyond_last}
use Rattle.tables.proofs.Spots.{on_row, on_signed, spots, sum_counts, three, total_counts}
use Rattle.soundness.specs.Inner.Certified.{row_in, face_in, Meets, Fine, Linked, Apart}
use Rattle.soundness.proofs.FaceRows.{one_cell, rising}
use Rattle.soundness.proofs.Mating.{meeting}

abbrev pub cells_in : ℕ → ℕ → List ℕ → List Cell
cells_in d s ws = tabulate s (λ p. (entry_in d ws p).cell)

module _ (d v s : ℕ) (ws : List ℕ) (some : 1 ≤ d) (most : s ≤ 4096) (long : length ws ≡ table_length d s)
    (fine : (p : ℕ) → p < s → Fine d v ws p) (linked : (p a : ℕ) → p < s → a ≤ d → Linked d s ws p a) (apart : Apart d s ws) where
  abbrev cs : List Cell
  cs = cells_in d s ws

  pub count : length (cells_in d s ws) ≡ s
  count = tabulate-length s (λ p. (entry_in d ws p).cell)

  pub cell_at_lem : (p : ℕ) → p < s → cell_at (cells_in d s ws) p ≡ (entry_in d ws p).cell
  cell_at_lem p h = tabulate_at s (λ p. (entry_in d ws p).cell) p no_cell h

  row_at_lem : (p : ℕ) → p < s → row_at (cells_in d s ws) p ≡ row_in d ws p
  row_at_lem p h = ap (λ (c : Cell). c.row) (cell_at_lem p h)

  length_of : (p : ℕ) → p < s → length (row_in d ws p) ≡ suc d
  length_of p h = row-long d _ (record_long d s p ws h long)

  rises : (p : ℕ) → p < s → Asc (row_in d ws p)
  rises p h = rising d v s p ws long h (fine p h)

  pub rows_long : All (Long (suc d)) (cells_in d s ws)
  rows_long = all_tabulated (Long (suc d)) s (λ p. (entry_in d ws p).cell) length_of

  ascend : All Asc (cells_in d s ws)
  ascend = all_tabulated Asc s (λ p. (entry_in d ws p).cell) rises

  beyond : (p : ℕ) → p < s → any_of (λ x. leb v x) (row_in d ws p) ≡ false
  beyond p h =
      beyond_last v d (row_in d ws p) (length_of p h)
      ∙ ap (λ (c : Cell). leb v (get_or c.row d 0)) (ascending_of_asc (entry_in d ws p).cell (rises p h))
      ∙ lt-leb v (vertex_in d ws p d) (fine p h).low

  filled_rows : (p : ℕ) → p < s → Filled (row_in d ws p)
  filled_rows p h = go (row_in d ws p) (length_of p h)
    where
      go : (w : Row) → length w ≡ suc d → Filled w
      go [] e = absurd (omega arith)
      go (x ∷ w) e = tt

  good : All (Good v) (cells_in d s ws)
  good =
      All_both Filled (Below v) cs (all_tabulated Filled s (λ p. (entry_in d ws p).cell) filled_rows)
      (all_below v cs
      (of_none (λ c. any_of (λ x. leb v x) c.row) cs
      (each_tabulated (λ (c : Cell). any_of (λ x. leb v x) c.row ≡ false) s (λ p. (entry_in d ws p).cell) beyond)))

  -- two places with one face: each one's wing is the other's cell
  across : (p a q b : ℕ) → p < s → a ≤ d → q < s → b ≤ d → face_in d ws p a ≡ face_in d ws q b → (p ≡ q → a ≡ b → ⊥) → wing_in d ws p a ≡ q
  across p a q b hp ha hq hb e two = go (meeting d s ws length_of rises linked apart p a q b hp ha hq hb e two)
    where
      go : Meets d ws p a q b ⊎ Meets d ws q b p a → wing_in d ws p a ≡ q
      go (inl m) = m.there
      go (inr m) = m.back

  -- a face as a key: its place, its row, its sign
  module _ (g : ℕ) (h : g < length (facets (cells_in d s ws))) where
    key_cell : g / suc d < s
    key_cell = omega (arith, (facet_cell d cs rows_long g h).0, count)

    key_place : (g % suc d) ≤ d
    key_place = omega (arith, mod-lt g {m = suc d} (omega arith))

    key_row_lem : row_at (facets (cells_in d s ws)) g ≡ face_in d ws (g / suc d) (g % suc d)
    key_row_lem = ap (λ (c : Cell). c.row) (facet_cell d cs rows_long g h).1 ∙ ap (without (g % suc d)) (row_at_lem (g / suc d) key_cell)

    key_sign_lem : sign_word (cell_at (facets (cells_in d s ws)) g).sign
        ≡ sign_word (times (alternating (g % suc d)) (sign_of (sign_in d ws (g / suc d))))
    key_sign_lem =
        ap (λ (c : Cell). sign_word c.sign) (facet_cell d cs rows_long g h).1
        ∙ ap (λ (c : Cell). sign_word (times (alternating (g % suc d)) c.sign)) (cell_at_lem (g / suc d) key_cell)
        ∙ ap (λ t. sign_word (times (alternating (g % suc d)) t)) (sign_at_lem d _ (record_long d s (g / suc d) ws key_cell long))

  -- two keys are two places
  places : (f g : ℕ) → (f ≡ g → ⊥) → f / suc d ≡ g / suc d → f % suc d ≡ g % suc d → ⊥
  places f g ne x y =
      ne
      (sym (div-add-mod' f (suc d)) ∙ ap (λ i. i * suc d + (f % suc d)) x ∙ ap (λ i. g / suc d * suc d + i) y ∙ div-add-mod' g (suc d))

  key_across : (f g : ℕ) (hf : f < length (facets (cells_in d s ws))) (hg : g < length (facets (cells_in d s ws))) → (f ≡ g → ⊥) →
      row_at (facets (cells_in d s ws)) f ≡ row_at (facets (cells_in d s ws)) g → wing_in d ws (f / suc d) (f % suc d) ≡ g / suc d
  key_across f g hf hg ne e =
      across (f / suc d) (f % suc d) (g / suc d) (g % suc d) (key_cell f hf) (key_place f hf) (key_cell g hg) (key_place g hg)
      (sym (key_row_lem f hf) ∙ e ∙ key_row_lem g hg) (places f g ne)

  meet : (w : Row) → total w (facets (cells_in d s ws)) ≤ 2
  meet w = go (dec_lt 2 (total w (facets cs)))
    where
      go : Dec (2 < total w (facets cs)) → total w (facets cs) ≤ 2
      go (yes l) = absurd none
        where
          none : ⊥
          none =
              let r = three (on_row w) (facets cs) (omega (arith, total_counts w (facets cs))) in
              let f = r.0 in
              let g = r.1 in
              let h = r.2 in
              let hh : h < length (facets cs) = r.5 in
              let hg : g < length (facets cs) = omega (arith, r.4, hh) in
              let hf : f < length (facets cs) = omega (arith, r.3, hg) in
              let ef = same_row_true (row_at (facets cs) f) w r.6 in
              let eg = same_row_true (row_at (facets cs) g) w r.7 in
              let eh = same_row_true (row_at (facets cs) h) w r.8 in
              let x : g / suc d ≡ h / suc d = sym (key_across f g hf hg (λ z. omega (arith, r.3, z)) (ef ∙ sym eg))
              ∙ key_across f h hf hh (λ z. omega (arith, r.3, r.4, z)) (ef ∙ sym eh) in
              let y : g % suc d ≡ h % suc d = one_cell d s ws length_of rises (g / suc d) (g % suc d) (h % suc d)
              (key_cell g hg) (key_place g hg) (key_place h hh)
              (sym (key_row_lem g hg) ∙ eg ∙ sym eh ∙ key_row_lem h hh ∙ ap (λ p. face_in d ws p (h % suc d)) (sym x)) in
              places g h (λ z. omega (arith, r.4, z)) x y
      go (no l) = omega arith

  -- no face has one sign twice
  pub once : (t : Sign) (w : Row) → sum_chain (plus_on w) t (facets (cells_in d s ws)) ≤ 1
  once t w = go (dec_lt 1 (sum_chain (plus_on w) t (facets cs)))
    where
      go : Dec (1 < sum_chain (plus_on w) t (facets cs)) → sum_chain (plus_on w) t (facets cs) ≤ 1
      go (yes l) = absurd none
        where
          none : ⊥
          none =
              let r = spots (on_signed t w) (facets cs) (omega (arith, sum_counts t w (facets cs))) in
              let f = r.0 in
              let g = r.1 in
              let hg : g < length (facets cs) = r.3 in
              let hf : f < length (facets cs) = omega (arith, r.2, hg) in
              let x = and_parts (times (cell_at (facets cs) f).sign t) _ r.4 in
              let y = and_parts (times (cell_at (facets cs) g).sign t) _ r.5 in
              let e : (cell_at (facets cs) f).sign ≡ (cell_at (facets cs) g).sign =
              times-same (cell_at (facets cs) f).sign t x.0 ∙ sym (times-same (cell_at (facets cs) g).sign t y.0) in
              let k = sym (key_sign_lem f hf) ∙ ap sign_word e ∙ key_sign_lem g hg in
              let rows = same_row_true (row_at (facets cs) f) w x.1 ∙ sym (same_row_true (row_at (facets cs) g) w y.1) in
              both (meeting d s ws length_of rises linked apart (f / suc d) (f % suc d) (g / suc d) (g % suc d) (key_cell f hf)
              (key_place f hf) (key_cell g hg) (key_place g hg) (sym (key_row_lem f hf) ∙ rows ∙ key_row_lem g hg)
              (places f g (λ z. omega (arith, r.2, z)))) k
            where
              both : {p a q b : ℕ} → Meets d ws p a q b ⊎ Meets d ws q b p a →
                  sign_word (times (alternating a) (sign_of (sign_in d ws p))) ≡ sign_word (times (alternating b) (sign_of (sign_in d ws q))) → ⊥
              both (inl m) k = m.opposite k
              both (inr m) k = m.opposite (sym k)
      go (no l) = omega arith

  distinct : (w : Row) → total w (cells_in d s ws) ≤ 1
  distinct w = go (dec_lt 1 (total w cs))
    where
      go : Dec (1 < total w cs) → total w cs ≤ 1
      go (yes l) = absurd none
        where
          apexes : {p q : ℕ} → Meets d ws p 0 q 0 ⊎ Meets d ws q 0 p 0 → row_in d ws p ≡ row_in d ws q → ⊥
          apexes (inl m) e = m.apex (ap (λ (r : Row). get_or r 0 0) e)
          apexes (inr m) e = m.apex (ap (λ (r : Row). get_or r 0 0) (sym e))

          none : ⊥
          none =
              let r = spots (on_row w) cs (omega (arith, total_counts w cs)) in
              let hq : r.1 < s = omega (arith, r.3, count) in
              let hp : r.0 < s = omega (arith, r.2, hq) in
              let e : row_in d ws r.0 ≡ row_in d ws r.1 =
              sym (row_at_lem r.0 hp) ∙ same_row_true (row_at cs r.0) w r.4 ∙ sym (same_row_true (row_at cs r.1) w r.5) ∙ row_at_lem r.1 hq in
              apexes (meeting d s ws length_of rises linked apart r.0 0 r.1 0 hp (omega arith) hq (omega arith) (ap (without 0) e)
              (λ z y. omega (arith, r.2, z))) e
      go (no l) = omega arith

  pub solid : Solid v (cells_in d s ws)
  solid = record {
    rows = good;
    asc = ascend;
    distinct = distinct;
    meet = meet;
    paired = λ w n. let not_one : total w (facets cs) ≢ 1 = eqb-false (total w (facets cs)) 1 n in
        omega (arith, plus-minus w (facets cs), once true w, once false w);
    materials = each_tabulated (λ (c : Cell). c.material ≤ max_material) s (λ p. (entry_in d ws p).cell) (λ p h. (fine p h).material);
  }

  -- a wing that is not empty is a cell that has the face
  abbrev Across : ℕ → ℕ → Type 0
  Across p a = (q : ℕ) × (b : ℕ) × (q < s) × (b ≤ d) × (p ≡ q → ⊥) × (face_in d ws p a ≡ face_in d ws q b)

  has_mate : (p a : ℕ) → p < s → a ≤ d → (wing_in d ws p a ≡ empty → ⊥) → Across p a
  has_mate p a hp ha ne = go (dec_lt p (wing_in d ws p a))
    where
      go : Dec (p < wing_in d ws p a) → Across p a
      go (yes l) =
          let r = (linked p a hp ha).leading l ne in
          (wing_in d ws p a, r.1.0, r.0, r.1.1, (λ z. omega (arith, l, z)), r.1.2.face)
      go (no l) =
          let r = (linked p a hp ha).following (omega arith) in
          (r.0, r.1, omega (arith, r.2), r.3, (λ z. omega (arith, r.2, z)), sym r.4.face)

  pub wing_is : (p a : ℕ) → p < s → a ≤ d → wing_in d ws p a ≡ neighbour p (face_in d ws p a) (cells_in d s ws)
  wing_is p a hp ha = go (ℕ_discrete (neighbour p (face_in d ws p a) cs) empty)
    where
      -- a cell with the face is not beside an empty wing
      beside : neighbour p (face_in d ws p a) cs ≡ empty → Across p a → ⊥
      beside e r =
          let q = r.0 in
          let b = r.1 in
          let hq : q < length cs = omega (arith, r.2, count) in
          let n : length (row_at cs q) ≡ suc d = all_at (Long (suc d)) cs rows_long q hq in
          let has : has_face (face_in d ws p a) (row_at cs q) ≡ true =
          subst (λ w. has_face w (row_at cs q) ≡ true) (ap (without b) (row_at_lem q r.2) ∙ sym r.5)
          (has_face_lem b (row_at cs q) (omega (arith, r.3, n)) (omega (arith, n, some))) in
          omega (
            arith,
            ap one has,
            others_with_ge p 0 q (face_in d ws p a) cs hq (λ y. r.4 (y ∙ zero-add q)),
            neighbour-empty p 0 (face_in d ws p a) cs (omega (arith, count)) e,
          )

      go : Dec (neighbour p (face_in d ws p a) cs ≡ empty) → wing_in d ws p a ≡ neighbour p (face_in d ws p a) cs
      go (yes e) = empty_too (ℕ_discrete (wing_in d ws p a) empty)
        where
          empty_too : Dec (wing_in d ws p a ≡ empty) → wing_in d ws p a ≡ neighbour p (face_in d ws p a) cs
          empty_too (yes z) = z ∙ sym e
          empty_too (no z) = absurd (beside e (has_mate p a hp ha z))
      go (no ne) =
          let r = neighbour_is p 0 (face_in d ws p a) cs ne in
          let q = r.0 in
          let hq : q < s = omega (arith, r.1, count) in
          let f = has_is (face_in d ws p a) (row_at cs q) r.4 in
          across p a q f.0 hp ha hq (omega (arith, f.1, all_at (Long (suc d)) cs rows_long q r.1))
          (sym f.2 ∙ ap (without f.0) (row_at_lem q hq)) (λ z y. r.3 (z ∙ sym (zero-add q))) ∙ sym (r.2 ∙ zero-add q)
