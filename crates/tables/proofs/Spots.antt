-- How many cells of a list pass a test, and where they stand.
--   count_if q L       how many cells of the list pass the test q
--   on_row w           the test for the row w; on_signed s w for the row w with the sign s
use mathlib.Core.Path.{◌≡◌, refl, ap}
use mathlib.Core.Bool.{Bool, true, false, ◌&&◌}
use mathlib.Core.List.{List, [], ◌∷◌}
use Prim.Native.Nat.{ℕ, zero, suc, ◌+◌, ◌≤◌, ◌<◌}
use native.Mathlib.Omega.{arith}
use native.Mathlib.Nat.{le_of_suc-le-suc, not-suc-le-zero}
use lib.ListN.{length}
use Rattle.simplex.specs.Cell.{Cell, Row, Sign, one, same_row, times}
use Rattle.simplex.specs.Chain.{total}
use Rattle.simplex.proofs.Sums.{plus_on, sum_chain}
use Rattle.solids.proofs.Tables.{cell_at}

abbrev pub count_if : (Cell → Bool) → List Cell → ℕ
count_if q [] = 0
count_if q (c ∷ cs) = one (q c) + count_if q cs

abbrev pub on_row : Row → Cell → Bool
on_row w c = same_row c.row w

abbrev pub on_signed : Sign → Row → Cell → Bool
on_signed s w c = times c.sign s && same_row c.row w

pub total_counts : (w : Row) (L : List Cell) → total w L ≡ count_if (on_row w) L
total_counts w [] = refl
total_counts w (c ∷ L) = ap (λ n. one (same_row c.row w) + n) (total_counts w L)

pub sum_counts : (s : Sign) (w : Row) (L : List Cell) → sum_chain (plus_on w) s L ≡ count_if (on_signed s w) L
sum_counts s w [] = refl
sum_counts s w (c ∷ L) = ap (λ n. one (times c.sign s && same_row c.row w) + n) (sum_counts s w L)

module _ (q : Cell → Bool) where
  pub count-one : (L : List Cell) (f : ℕ) → f < length L → q (cell_at L f) ≡ true → 1 ≤ count_if q L
  count-one [] f h e = absurd (not-suc-le-zero h)
  count-one (c ∷ L) zero h e = rw e (omega arith)
  count-one (c ∷ L) (suc f) h e = omega (arith, count-one L f (le_of_suc-le-suc h) e)

  pub count_two : (L : List Cell) (f g : ℕ) → f < g → g < length L → q (cell_at L f) ≡ true → q (cell_at L g) ≡ true → 2 ≤ count_if q L
  count_two [] f g l h e k = absurd (not-suc-le-zero h)
  count_two (c ∷ L) f zero l h e k = absurd (not-suc-le-zero l)
  count_two (c ∷ L) zero (suc g) l h e k = rw e (omega (arith, count-one L g (le_of_suc-le-suc h) k))
  count_two (c ∷ L) (suc f) (suc g) l h e k = omega (arith, count_two L f g (le_of_suc-le-suc l) (le_of_suc-le-suc h) e k)

  pub count_three : (L : List Cell) (f g h : ℕ) → f < g → g < h → h < length L →
      q (cell_at L f) ≡ true → q (cell_at L g) ≡ true → q (cell_at L h) ≡ true → 3 ≤ count_if q L
  count_three [] f g h l m n a b c = absurd (not-suc-le-zero n)
  count_three (x ∷ L) f g zero l m n a b c = absurd (not-suc-le-zero m)
  count_three (x ∷ L) f zero (suc h) l m n a b c = absurd (not-suc-le-zero l)
  count_three (x ∷ L) zero (suc g) (suc h) l m n a b c = rw a (omega (arith, count_two L g h (le_of_suc-le-suc m) (le_of_suc-le-suc n) b c))
  count_three (x ∷ L) (suc f) (suc g) (suc h) l m n a b c =
      omega (arith, count_three L f g h (le_of_suc-le-suc l) (le_of_suc-le-suc m) (le_of_suc-le-suc n) a b c)

  -- the places of one, two, three cells that pass
  abbrev pub Spot : List Cell → Type 0
  Spot L = (f : ℕ) × (f < length L) × (q (cell_at L f) ≡ true)

  abbrev pub Spots : List Cell → Type 0
  Spots L = (f : ℕ) × (g : ℕ) × (f < g) × (g < length L) × (q (cell_at L f) ≡ true) × (q (cell_at L g) ≡ true)

  pub spot : (L : List Cell) → 1 ≤ count_if q L → Spot L
  spot [] h = absurd (not-suc-le-zero h)
  spot (c ∷ L) h = go (q c) refl h (spot L)
    where
      go : (t : Bool) → q c ≡ t → 1 ≤ one t + count_if q L → (1 ≤ count_if q L → Spot L) → Spot (c ∷ L)
      go true e h k = (0, omega arith, e)
      go false e h k = let r = k (omega arith) in (suc r.0, omega (arith, r.1), r.2)

  pub spots : (L : List Cell) → 2 ≤ count_if q L → Spots L
  spots [] h = absurd (not-suc-le-zero h)
  spots (c ∷ L) h = go (q c) refl h (spot L) (spots L)
    where
      go : (t : Bool) → q c ≡ t → 2 ≤ one t + count_if q L → (1 ≤ count_if q L → Spot L) → (2 ≤ count_if q L → Spots L) → Spots (c ∷ L)
      go true e h k j = let r = k (omega arith) in (0, suc r.0, omega arith, omega (arith, r.1), e, r.2)
      go false e h k j = let r = j (omega arith) in (suc r.0, suc r.1, omega (arith, r.2), omega (arith, r.3), r.4, r.5)

  abbrev pub Three : List Cell → Type 0
  Three L =
      (f : ℕ) × (g : ℕ) × (h : ℕ) × (f < g) × (g < h) × (h < length L) × (q (cell_at L f) ≡ true) × (q (cell_at L g) ≡ true)
      × (q (cell_at L h) ≡ true)

  pub three : (L : List Cell) → 3 ≤ count_if q L → Three L
  three [] h = absurd (not-suc-le-zero h)
  three (c ∷ L) h = go (q c) refl h (spots L) (three L)
    where
      go : (t : Bool) → q c ≡ t → 3 ≤ one t + count_if q L → (2 ≤ count_if q L → Spots L) → (3 ≤ count_if q L → Three L) → Three (c ∷ L)
      go true e h k j = let r = k (omega arith) in (0, suc r.0, suc r.1, omega arith, omega (arith, r.2), omega (arith, r.3), e, r.4, r.5)
      go false e h k j = let r = j (omega arith) in
          (suc r.0, suc r.1, suc r.2, omega (arith, r.3), omega (arith, r.4), omega (arith, r.5), r.6, r.7, r.8)
