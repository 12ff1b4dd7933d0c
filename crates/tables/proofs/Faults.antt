-- The first of rows 9 to 11 that refuses the held cells, and their wings, as the code finds them.
--   P, Q              what the kernel leaves for the cells and for their n faces
use mathlib.Core.Path.{◌≡◌, refl, sym, ap, ◌∙◌, subst}
use mathlib.Core.Bool.{true, false}
use mathlib.Core.List.{List}
use Prim.Native.Nat.{ℕ, ◌+◌, ◌*◌, ◌≤◌, ◌<◌}
use native.Mathlib.Omega.{arith}
use native.Mathlib.Numerals.{add-one}
use lib.ListN.{length, get_or}
use Rattle.words.specs.Records.{any_below}
use Rattle.simplex.specs.Cell.{Sign}
use Rattle.simplex.specs.Faces.{facets}
use Rattle.solids.specs.Accept.{cell_twice, crowded_face, equal_signs}
use Rattle.tables.specs.Inner.Held.{Blank, Winged, falls, faults, held_cells}
use Rattle.matching.specs.Inner.Matching.{earlier}
use Rattle.tables.specs.Inner.Pairing.{face_count, key_sign, paired, twin_at}
use Rattle.tables.specs.Inner.Scan.{seen_at, seen_like, seen_twice}
use Rattle.tables.proofs.Adjacent.{cells-twice, faces_crowded, faces-equal, faces-paired, faces_twins}

module _ (d s : ℕ) (rows : List ℕ) (signs : List Sign) (made : ℕ → ℕ) (hd : d ≤ 7) (hs : s ≤ 4096) (wide : length rows ≡ 32768) where
  pub twice_is : (P : List ℕ) → ((g : ℕ) → g < s * 1 → get_or P g 0 ≡ earlier rows (d + 1) 1 (d + 1) g) →
      cell_twice (held_cells d s rows signs made) ≡ any_below s (seen_at s P)
  twice_is P cells = cells-twice d s rows signs made hd hs wide P (d + 1) (add-one d) (λ g l. cells g (omega arith))

  pub found_9 : cell_twice (held_cells d s rows signs made) ≡ true → 9 ≡ faults (held_cells d s rows signs made)
  unfolding faults
  found_9 e = rw e refl

  module _ (Q : List ℕ) (n : ℕ) (count : n ≡ face_count d s) (faces : (g : ℕ) → g < n → get_or Q g 0 ≡ earlier rows (d + 1) (d + 1) 0 g) where
    some : (g : ℕ) → g < face_count d s → get_or Q g 0 ≡ earlier rows (d + 1) (d + 1) 0 g
    some g l = faces g (omega (arith, count))

    crowded : crowded_face (facets (held_cells d s rows signs made)) ≡ any_below n (seen_twice n Q)
    crowded = faces_crowded d s rows signs made hd hs wide Q (d + 1) (add-one d) some ∙ ap (λ n. any_below n (seen_twice n Q)) (sym count)

    pub found_10 : cell_twice (held_cells d s rows signs made) ≡ false → any_below n (seen_twice n Q) ≡ true
        → 10 ≡ faults (held_cells d s rows signs made)
    unfolding faults
    found_10 once e = rw (once, crowded ∙ e) refl

    module _ (met : any_below n (seen_twice n Q) ≡ false) where
      pub twins_are : (d ≡ 0 → ⊥) → cell_twice (held_cells d s rows signs made) ≡ any_below n (twin_at (d + 1) n rows Q)
      twins_are ne =
          faces_twins d s rows signs made hd hs wide Q (d + 1) (add-one d) some (crowded ∙ met) ne
          ∙ ap (λ n. any_below n (twin_at (d + 1) n rows Q)) (sym count)

      equal : equal_signs (facets (held_cells d s rows signs made)) ≡ any_below n (seen_like n Q (key_sign (d + 1) signs))
      equal =
          faces-equal d s rows signs made hd hs wide Q (d + 1) (add-one d) some (crowded ∙ met)
          ∙ ap (λ n. any_below n (seen_like n Q (key_sign (d + 1) signs))) (sym count)

      module _ (once : cell_twice (held_cells d s rows signs made) ≡ false) where
        pub found_11 : any_below n (seen_like n Q (key_sign (d + 1) signs)) ≡ true → 11 ≡ faults (held_cells d s rows signs made)
        unfolding faults
        found_11 e = rw (once, crowded ∙ met, equal ∙ e) refl

        pub found_none : any_below n (seen_like n Q (key_sign (d + 1) signs)) ≡ false → 0 ≡ faults (held_cells d s rows signs made)
        unfolding faults
        found_none e = rw (once, crowded ∙ met, equal ∙ e) refl

      pub found-wings : (W X : List ℕ) → any_below s (falls d rows) ≡ false →
          Blank W → X ≡ paired (d + 1) n Q n W → Winged d (held_cells d s rows signs made) X
      found-wings W X up blank e =
          subst (Winged d (held_cells d s rows signs made)) (sym (e ∙ ap (λ n. paired (d + 1) n Q n W) count))
          (faces-paired d s rows signs made hd hs wide Q (d + 1) (add-one d) some (crowded ∙ met) W up blank)
