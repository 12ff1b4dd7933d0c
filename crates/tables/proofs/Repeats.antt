-- Rows that stand twice or three times in a list of cells, told from the keys that were seen before: rows 9, 10 and 11.
--   prev_in L g        the last cell before g with the row of cell g, or 65535
--   Prev L P          the list P holds these numbers
use mathlib.Core.Path.{◌≡◌, refl, sym, ◌∙◌}
use mathlib.Core.Bool.{Bool, true, false, ◌&&◌}
use mathlib.Core.List.{List}
use Prim.Native.Nat.{ℕ, ◌≤◌, ◌<◌}
use native.Mathlib.Omega.{arith}
use native.Mathlib.Decide.{dec_lt}
use lib.ListN.{length, get_or}
use lib.Dec.{ltb}
use borrow.Author.Tests.{lt-ltb, ltb-true}
use Rattle.words.specs.Records.{any_of, any_below}
use Rattle.rules.proofs.Tests.{and_parts}
use Rattle.simplex.specs.Cell.{Cell, Row, Sign, same_row, times}
use Rattle.simplex.specs.Chain.{total}
use Rattle.simplex.proofs.Rows.{same_rows, same_row_true}
use Rattle.simplex.proofs.Signs.{times-same, times_self}
use Rattle.simplex.proofs.Sums.{plus_on, sum_chain}
use Rattle.solids.specs.Accept.{crowded_face, equal_signs}
use Rattle.matching.specs.Inner.Matching.{last_below}
use Rattle.tables.specs.Inner.Scan.{seen_at, seen_like, seen_twice}
use Rattle.words.proofs.Below.{below_false, some_below, true_unless}
use Rattle.matching.proofs.Earlier.{last_bounds}
use Rattle.matching.proofs.LastBelow.{last_is}
use Rattle.solids.proofs.Solid.{row_at}
use Rattle.tables.proofs.Spots.{count_three, count_two, on_row, on_signed, spots, sum_counts, three, total_counts}
use Rattle.solids.proofs.Tables.{cell_at}
use Rattle.solids.proofs.Tests.{few_of, of_few, once-signs, signs-once}

abbrev pub prev_in : List Cell → ℕ → ℕ
prev_in L g = last_below (λ f. same_row (row_at L f) (row_at L g)) g

abbrev pub Prev : List Cell → List ℕ → Type 0
Prev L P = (g : ℕ) → g < length L → get_or P g 0 ≡ prev_in L g

pub and_both : (a b : Bool) → a ≡ true → b ≡ true → (a && b) ≡ true
and_both a b e k = rw (e, k) refl

module _ (L : List Cell) (P : List ℕ) (small : length L ≤ 32768) (prev : Prev L P) where
  -- what was seen before stands before, with the same row
  pub seen_is : (g : ℕ) → g < length L → seen_at (length L) P g ≡ true → (get_or P g 0 < g) × (row_at L (get_or P g 0) ≡ row_at L g)
  seen_is g h e =
      let l : get_or P g 0 < length L = ltb-true (get_or P g 0) (length L) e in
      let r = last_is (λ f. same_row (row_at L f) (row_at L g)) g (λ z. omega (arith, prev g h)) in
      rw (prev g h) (r.0, same_row_true (row_at L (prev_in L g)) (row_at L g) r.1)

  -- a cell with the same row before g was seen
  pub is_seen : (f g : ℕ) → f < g → g < length L → row_at L f ≡ row_at L g → (seen_at (length L) P g ≡ true) × (f ≤ get_or P g 0)
  is_seen f g l h e =
      let r = last_bounds (λ f. same_row (row_at L f) (row_at L g)) g f l (same_rows (row_at L f) (row_at L g) e) in
      (lt-ltb (get_or P g 0) (length L) (omega (arith, prev g h, r.0)), omega (arith, prev g h, r.1))

  module _ (w : Row) where
    two_rows : (f g : ℕ) → f < g → g < length L → row_at L f ≡ w → row_at L g ≡ w → 2 ≤ total w L
    two_rows f g l h a b = omega (arith, total_counts w L, count_two (on_row w) L f g l h (same_rows (row_at L f) w a) (same_rows (row_at L g) w b))

    three_rows : (f g h : ℕ) → f < g → g < h → h < length L → row_at L f ≡ w → row_at L g ≡ w → row_at L h ≡ w → 3 ≤ total w L
    three_rows f g h l m n a b c =
        omega (
          arith,
          total_counts w L,
          count_three (on_row w) L f g h l m n (same_rows (row_at L f) w a) (same_rows (row_at L g) w b) (same_rows (row_at L h) w c),
        )

  is_row : (w : Row) (f : ℕ) → on_row w (cell_at L f) ≡ true → row_at L f ≡ w
  is_row w f e = same_row_true (row_at L f) w e

  -- 9: some row stands twice exactly where some key was seen before
  pub twice_seen : any_of (λ c. ltb 1 (total c.row L)) L ≡ any_below (length L) (seen_at (length L) P)
  twice_seen = go (any_below (length L) (seen_at (length L) P)) refl
    where
      found : (g : ℕ) × (g < length L) × (seen_at (length L) P g ≡ true) → any_of (λ c. ltb 1 (total c.row L)) L ≡ false → ⊥
      found r e =
          let k = seen_is r.0 r.1 r.2 in
          omega (arith, two_rows (row_at L r.0) (get_or P r.0 0) r.0 k.0 r.1 k.1 refl, few_of 1 L e (row_at L r.0))

      once : any_below (length L) (seen_at (length L) P) ≡ false → (w : Row) → Dec (1 < total w L) → total w L ≤ 1
      once e w (yes l) =
          let r = spots (on_row w) L (omega (arith, total_counts w L)) in
          absurd (below_false (seen_at (length L) P) (length L) e r.1 r.3
          (is_seen r.0 r.1 r.2 r.3 (is_row w r.0 r.4 ∙ sym (is_row w r.1 r.5))).0)
      once e w (no l) = omega arith

      go : (t : Bool) → any_below (length L) (seen_at (length L) P) ≡ t → any_of (λ c. ltb 1 (total c.row L)) L ≡ t
      go true e = true_unless _ (found (some_below (seen_at (length L) P) (length L) e))
      go false e = of_few 1 L (λ w. once e w (dec_lt 1 (total w L))) L

  -- 10: some row stands three times exactly where some key was seen before, and the one before it too
  pub crowded_seen : crowded_face L ≡ any_below (length L) (seen_twice (length L) P)
  crowded_seen = go (any_below (length L) (seen_twice (length L) P)) refl
    where
      found : (g : ℕ) × (g < length L) × (seen_twice (length L) P g ≡ true) → crowded_face L ≡ false → ⊥
      found r e =
          let g = r.0 in
          let f = get_or P g 0 in
          let both = and_parts (seen_at (length L) P g) (seen_at (length L) P f) r.2 in
          let k = seen_is g r.1 both.0 in
          let hf : f < length L = omega (arith, r.1, k.0) in
          let j = seen_is f hf both.1 in
          omega (arith, three_rows (row_at L g) (get_or P f 0) f g j.0 k.0 r.1 (j.1 ∙ k.1) k.1 refl, few_of 2 L e (row_at L g))

      twice : (w : Row) (f g h : ℕ) → f < g → g < h → h < length L → row_at L f ≡ w → row_at L g ≡ w → row_at L h ≡ w
          → seen_twice (length L) P h ≡ true
      twice w f g h l m n a b c =
          let r = is_seen g h m n (b ∙ sym c) in
          let k = seen_is h n r.0 in
          let s = is_seen f (get_or P h 0) (omega (arith, l, r.1)) (omega (arith, k.0, n)) (a ∙ sym c ∙ sym k.1) in
          and_both (seen_at (length L) P h) (seen_at (length L) P (get_or P h 0)) r.0 s.0

      few : any_below (length L) (seen_twice (length L) P) ≡ false → (w : Row) → Dec (2 < total w L) → total w L ≤ 2
      few e w (yes l) =
          let r = three (on_row w) L (omega (arith, total_counts w L)) in
          absurd (below_false (seen_twice (length L) P) (length L) e r.2 r.5
          (twice w r.0 r.1 r.2 r.3 r.4 r.5 (is_row w r.0 r.6) (is_row w r.1 r.7) (is_row w r.2 r.8)))
      few e w (no l) = omega arith

      go : (t : Bool) → any_below (length L) (seen_twice (length L) P) ≡ t → crowded_face L ≡ t
      go true e = true_unless _ (found (some_below (seen_twice (length L) P) (length L) e))
      go false e = of_few 2 L (λ w. few e w (dec_lt 2 (total w L))) L

  module _ (meet : (w : Row) → total w L ≤ 2) where
    -- where no row stands three times, a cell with the same row before g is the one that was seen
    pub seen_only : (f g : ℕ) → f < g → g < length L → row_at L f ≡ row_at L g → get_or P g 0 ≡ f
    seen_only f g l h e = go (dec_lt f (get_or P g 0))
      where
        r : (seen_at (length L) P g ≡ true) × (f ≤ get_or P g 0)
        r = is_seen f g l h e

        k : (get_or P g 0 < g) × (row_at L (get_or P g 0) ≡ row_at L g)
        k = seen_is g h r.0

        go : Dec (f < get_or P g 0) → get_or P g 0 ≡ f
        go (yes m) = absurd (omega (arith, three_rows (row_at L g) f (get_or P g 0) g m k.0 h e k.1 refl, meet (row_at L g)))
        go (no m) = omega (arith, r.1)

    module _ (sg : ℕ → Sign) (signs : (g : ℕ) → g < length L → sg g ≡ (cell_at L g).sign) where
      -- 11: some row stands twice with one sign exactly where some key was seen before with the same sign
      pub equal_seen : equal_signs L ≡ any_below (length L) (seen_like (length L) P sg)
      equal_seen = go (any_below (length L) (seen_like (length L) P sg)) refl
        where
          found : (g : ℕ) × (g < length L) × (seen_like (length L) P sg g ≡ true) → equal_signs L ≡ false → ⊥
          found r e =
              let g = r.0 in
              let f = get_or P g 0 in
              let both = and_parts (seen_at (length L) P g) (times (sg g) (sg f)) r.2 in
              let k = seen_is g r.1 both.0 in
              let s = sg g in
              let eq : sg g ≡ sg f = times-same (sg g) (sg f) both.1 in
              let on-f : times (cell_at L f).sign s ≡ true = rw (sym (signs f (omega (arith, r.1, k.0))), sym eq) (times_self s) in
              let on-g : times (cell_at L g).sign s ≡ true = rw (sym (signs g r.1)) (times_self s) in
              let w = row_at L g in
              omega (
                arith,
                sum_counts s w L,
                signs-once L e s w,
                count_two (on_signed s w) L f g k.0 r.1 (and_both _ _ on-f (same_rows (row_at L f) w k.1))
                    (and_both _ _ on-g (same_rows w w refl)),
              )

          once : any_below (length L) (seen_like (length L) P sg) ≡ false → (s : Sign) (w : Row) →
              Dec (1 < sum_chain (plus_on w) s L) → sum_chain (plus_on w) s L ≤ 1
          once e s w (yes l) =
              let r = spots (on_signed s w) L (omega (arith, sum_counts s w L)) in
              let f = r.0 in
              let g = r.1 in
              let af = and_parts (times (cell_at L f).sign s) (same_row (row_at L f) w) r.4 in
              let ag = and_parts (times (cell_at L g).sign s) (same_row (row_at L g) w) r.5 in
              let rows : row_at L f ≡ row_at L g = same_row_true (row_at L f) w af.1 ∙ sym (same_row_true (row_at L g) w ag.1) in
              let is : get_or P g 0 ≡ f = seen_only f g r.2 r.3 rows in
              let sf : sg f ≡ s = signs f (omega (arith, r.2, r.3)) ∙ times-same (cell_at L f).sign s af.0 in
              let sgg : sg g ≡ s = signs g r.3 ∙ times-same (cell_at L g).sign s ag.0 in
              absurd (below_false (seen_like (length L) P sg) (length L) e g r.3
              (and_both (seen_at (length L) P g) (times (sg g) (sg (get_or P g 0)))
              (is_seen f g r.2 r.3 rows).0 (rw (is, sf, sgg) (times_self s))))
          once e s w (no l) = omega arith

          go : (t : Bool) → any_below (length L) (seen_like (length L) P sg) ≡ t → equal_signs L ≡ t
          go true e = true_unless _ (found (some_below (seen_like (length L) P sg) (length L) e))
          go false e = once-signs L (λ s w. once e s w (dec_lt 1 (sum_chain (plus_on w) s L))) L
