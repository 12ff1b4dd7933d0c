-- Rows 9 to 11 and the wings of the cells that the code holds, from the keys that were seen before.
use mathlib.Core.Path.{◌≡◌, refl, sym, ap, ap₂, ◌∙◌, subst}
use mathlib.Core.Bool.{false}
use mathlib.Core.List.{List}
use Prim.Native.Nat.{ℕ, zero, suc, ◌*◌, ◌/◌, ◌%◌, ◌≤◌, ◌<◌, ◌+◌}
use native.Mathlib.Omega.{arith}
use native.Mathlib.Numerals.{add-one}
use native.Mathlib.Nat.{add-zero, mul-le-mul}
use lib.ListN.{length, get_or, take}
use lib.Dec.{leb}
use lib.Seq.{length-take-le}
use Rattle.words.specs.Records.{part, any_below}
use Rattle.words.proofs.Records.{tabulate_at, tabulate-length}
use Rattle.simplex.specs.Cell.{Cell, Row, Sign, alternating, times, no_cell}
use Rattle.simplex.specs.Chain.{total}
use Rattle.simplex.specs.Faces.{facets}
use Rattle.simplex.specs.Sort.{Asc}
use Rattle.simplex.proofs.Each.{All}
use Rattle.simplex.proofs.Rows.{Long}
use Rattle.solids.specs.Accept.{cell_twice, crowded_face, equal_signs}
use Rattle.tables.specs.Inner.Held.{Blank, Winged, cell_held, falls, held_cells}
use Rattle.matching.specs.Inner.Matching.{earlier}
use Rattle.tables.specs.Inner.Pairing.{face_count, key_sign, paired, twin_at}
use Rattle.tables.specs.Inner.Scan.{seen_at, seen_like, seen_twice}
use Rattle.words.proofs.Below.{below_ext, below_not}
use Rattle.records.proofs.Parts.{part-within}
use Rattle.tables.proofs.FaceKeys.{Holds, earlier_prev, facet_cell, facets-length, key_cell, key_face}
use Rattle.matching.proofs.KeptRows.{cell_at_lem}
use Rattle.tables.proofs.Repeats.{Prev, crowded_seen, equal_seen, twice_seen}
use Rattle.tables.proofs.SortedTests.{falls_not, falls_in}
use Rattle.solids.proofs.Solid.{all_tabulated}
use Rattle.solids.proofs.Tables.{cell_at}
use Rattle.solids.proofs.Tests.{few_of}
use Rattle.tables.proofs.Twins.{Heads, twins_seen}
use Rattle.tables.proofs.Winged.{facets-few, paired-winged}

module _ (d s : ℕ) (rows : List ℕ) (signs : List Sign) (made : ℕ → ℕ) (hd : d ≤ 7) (hs : s ≤ 4096) (wide : length rows ≡ 32768) where
  abbrev cs : List Cell
  cs = held_cells d s rows signs made

  pub held_length : length (held_cells d s rows signs made) ≡ s
  held_length = tabulate-length s (λ p. cell_held d rows signs made p)

  pub held_at : (p : ℕ) → p < s → cell_at (held_cells d s rows signs made) p ≡ cell_held d rows signs made p
  held_at p h = tabulate_at s (λ p. cell_held d rows signs made p) p no_cell h

  row-long : (p : ℕ) → p < s → length (take (suc d) (part 8 p rows)) ≡ suc d
  row-long p h = length-take-le (suc d) (part 8 p rows) (omega (arith, part-within 8 p s rows h (omega arith)))

  pub held_long : All (Long (suc d)) (held_cells d s rows signs made)
  held_long = all_tabulated (Long (suc d)) s (λ p. cell_held d rows signs made p) row-long

  pub held_holds : Holds d rows (held_cells d s rows signs made)
  held_holds p h = sym (ap (λ (c : Cell). c.row) (held_at p (subst (λ n. p < n) held_length h)))

  -- a vertex of cell p
  pub held_vertex : (p j : ℕ) → j < suc d → get_or rows (p * 8 + j) 0 ≡ get_or (take (suc d) (part 8 p rows)) j 0
  held_vertex p j l = sym (cell_at_lem rows (suc d) p j (omega arith) l)

  pub held_falls : (p : ℕ) → falls d rows p ≡ falls_in d (take (suc d) (part 8 p rows))
  held_falls p =
      below_ext d (λ j. leb (get_or rows (p * 8 + j + 1) 0) (get_or rows (p * 8 + j) 0))
      (λ j. leb (get_or (take (suc d) (part 8 p rows)) (suc j) 0) (get_or (take (suc d) (part 8 p rows)) j 0))
      (λ j l. ap₂ leb (ap (λ i. get_or rows i 0) (next j) ∙ held_vertex p (suc j) (omega arith)) (held_vertex p j (omega arith)))
    where
      next : (j : ℕ) → p * 8 + j + 1 ≡ p * 8 + suc j
      next j = omega arith

  -- where no row falls, all ascend
  pub held_ascend : any_below s (falls d rows) ≡ false → All Asc (held_cells d s rows signs made)
  held_ascend e = all_tabulated Asc s (λ p. cell_held d rows signs made p)
      (λ p h. falls_not d (take (suc d) (part 8 p rows)) (row-long p h) (sym (held_falls p) ∙ below_not (falls d rows) s e p h))

  small : s * suc d ≤ 32768
  small = omega (arith, mul-le-mul hs (suc_le hd))
    where
      suc_le : d ≤ 7 → suc d ≤ 8
      suc_le h = omega arith

  few : length (facets (held_cells d s rows signs made)) ≤ 32768
  few = omega (arith, facets-few d cs held_long, ap (λ n. n * suc d) held_length, small)

  count : length (facets (held_cells d s rows signs made)) ≡ face_count d s
  count = facets-length d cs held_long ∙ ap (face_count d) held_length

  -- row 9
  pub cells-twice : (P : List ℕ) (k : ℕ) → k ≡ suc d → ((g : ℕ) → g < s → get_or P g 0 ≡ earlier rows k 1 k g) →
      cell_twice (held_cells d s rows signs made) ≡ any_below s (seen_at s P)
  cells-twice P k e h =
      twice_seen cs P (omega (arith, held_length))
      (λ g l. h g (subst (λ n. g < n) held_length l) ∙ ap (λ k. earlier rows k 1 k g) e
      ∙ earlier_prev rows (suc d) 1 (suc d) cs (key_cell d rows cs held_long held_holds) g l)
      ∙ ap (λ n. any_below n (seen_at n P)) held_length

  -- rows 10 and 11, and the wings
  module _ (P : List ℕ) (k : ℕ) (e : k ≡ suc d) (h : (g : ℕ) → g < face_count d s → get_or P g 0 ≡ earlier rows k k 0 g) where
    seen : Prev (facets (held_cells d s rows signs made)) P
    seen g l =
        h g (subst (λ n. g < n) count l) ∙ ap (λ k. earlier rows k k 0 g) e
        ∙ earlier_prev rows (suc d) (suc d) 0 (facets cs) (key_face d rows cs held_long held_holds) g l

    pub faces_crowded : crowded_face (facets (held_cells d s rows signs made)) ≡ any_below (face_count d s) (seen_twice (face_count d s) P)
    faces_crowded = crowded_seen (facets cs) P few seen ∙ ap (λ n. any_below n (seen_twice n P)) count

    module _ (met : crowded_face (facets (held_cells d s rows signs made)) ≡ false) where
      meet : (w : Row) → total w (facets (held_cells d s rows signs made)) ≤ 2
      meet = few_of 2 (facets cs) met

      signs_of : (g : ℕ) → g < length (facets (held_cells d s rows signs made)) →
          key_sign (suc d) signs g ≡ (cell_at (facets (held_cells d s rows signs made)) g).sign
      signs_of g l =
          let r = facet_cell d cs held_long g l in
          sym (ap (λ (c : Cell). c.sign) r.1
          ∙ ap (λ (c : Cell). times (alternating (g % suc d)) c.sign) (held_at (g / suc d) (subst (λ n. g / suc d < n) held_length r.0)))

      pub faces-equal : equal_signs (facets (held_cells d s rows signs made))
          ≡ any_below (face_count d s) (seen_like (face_count d s) P (key_sign k signs))
      faces-equal =
          equal_seen (facets cs) P few seen meet (key_sign (suc d) signs) signs_of
          ∙ ap (λ n. any_below n (seen_like n P (key_sign (suc d) signs))) count
          ∙ ap (λ k. any_below (face_count d s) (seen_like (face_count d s) P (key_sign k signs))) (sym e)

      -- row 9, where there are faces
      pub faces_twins : (d ≡ 0 → ⊥) → cell_twice (held_cells d s rows signs made) ≡ any_below (face_count d s) (twin_at k (face_count d s) rows P)
      faces_twins some =
          twins d some held_long
          ∙ ap (λ k. any_below (face_count d s) (twin_at k (face_count d s) rows P)) (sym e)
        where
          heads : Heads rows (held_cells d s rows signs made)
          heads p l =
              ap (λ i. get_or rows i 0) (sym (add-zero (p * 8))) ∙ held_vertex p 0 (omega arith)
              ∙ ap (λ (c : Cell). get_or c.row 0 0) (sym (held_at p (subst (λ n. p < n) held_length l)))

          twins : (c : ℕ) → (c ≡ 0 → ⊥) → All (Long (suc c)) (held_cells d s rows signs made) →
              cell_twice (held_cells d s rows signs made) ≡ any_below (face_count d s) (twin_at (suc c) (face_count d s) rows P)
          twins zero ne long = absurd (ne refl)
          twins (suc c) ne long = twins_seen c rows cs P long heads few seen meet ∙ ap (λ n. any_below n (twin_at (suc (suc c)) n rows P)) count

      pub faces-paired : (W : List ℕ) → any_below s (falls d rows) ≡ false → Blank W →
          Winged d (held_cells d s rows signs made) (paired k (face_count d s) P (face_count d s) W)
      faces-paired W up blank =
          subst (λ k. Winged d cs (paired k (face_count d s) P (face_count d s) W)) (sym e)
          (subst (λ n. Winged d cs (paired (suc d) n P n W)) (ap (face_count d) held_length)
          (paired-winged d cs P W held_long (held_ascend up) (omega (arith, held_length))
          (subst (λ n. n * suc d ≤ 32768) (sym held_length) small) seen meet blank))

pub face-count : (d s : ℕ) → (d ≡ 0 → ⊥) → face_count d s ≡ s * (d + 1)
face-count zero s h = absurd (h refl)
face-count (suc d) s h = ap (λ n. s * n) (sym (add-one (suc d)))
