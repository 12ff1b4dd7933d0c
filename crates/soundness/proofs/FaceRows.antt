-- A row of d + 1 vertices less one of them: its vertices, and when two are the same; and the rows of a table.
use mathlib.Core.Path.{◌≡◌, ap, sym, ◌∙◌}
use mathlib.Core.List.{List}
use mathlib.Core.Bool.{Bool, true, false, cond, not}
use Prim.Native.Nat.{ℕ, suc, ◌+◌, ◌≤◌, ◌<◌}
use native.Mathlib.Decide.{dec_lt}
use native.Mathlib.Numerals.{add-one}
use native.Mathlib.Omega.{arith}
use lib.Dec.{eqb, leb, ltb}
use lib.ListN.{length, get_or}
use Rattle.simplex.specs.Cell.{Row, same_row}
use borrow.Author.Tests.{eqb-false, lt-leb, not-true}
use Rattle.words.proofs.Below.{none_below}
use Rattle.simplex.specs.Faces.{without}
use Rattle.simplex.specs.Sort.{Asc}
use Rattle.simplex.proofs.Without.{without_inj, without-length}
use Rattle.records.specs.Layout.{table_length}
use Rattle.records.specs.Inner.Inside.{Inside}
use Rattle.records.proofs.Places.{record_long, row-long}
use Rattle.soundness.specs.Inner.Certified.{Fine, face_in, row_in}
use Rattle.tables.proofs.SortedTests.{falls_not}
use Rattle.matching.proofs.KeptRows.{after_at, before_at, by_ltb, same_false, same_true}

-- vertex j of those left stands at j before position a, and one further after it
pub left_at : (w : Row) (a j x : ℕ) → x ≡ cond (ltb j a) j (j + 1) → get_or (without a w) j 0 ≡ get_or w x 0
left_at w a j x e =
    by_ltb (λ t. get_or (without a w) j 0 ≡ get_or w (cond t j (j + 1)) 0) j a (λ l. before_at a j w l)
    (λ l. after_at a j w l ∙ ap (λ (i : ℕ). get_or w i 0) (sym (add-one j)))
    ∙ ap (λ (i : ℕ). get_or w i 0) (sym e)

module _ (d a b : ℕ) (v w : Row) (lv : length v ≡ suc d) (lw : length w ≡ suc d) (ha : a ≤ d) (hb : b ≤ d) where
  pub rows_same : ((i : ℕ) → i < d → get_or (without a v) i 0 ≡ get_or (without b w) i 0) → same_row (without a v) (without b w) ≡ true
  rows_same all =
      let n = without-length a v (omega (arith, lv)) in
      let m = without-length b w (omega (arith, lw)) in
      same_true (without a v) (without b w) (omega arith) (λ i l. all i (omega arith))

  pub rows_differ : (i x y : ℕ) → x ≡ cond (ltb i a) i (i + 1) → y ≡ cond (ltb i b) i (i + 1) →
      (get_or v x 0 ≡ get_or w y 0 → ⊥) → same_row (without a v) (without b w) ≡ false
  rows_differ i x y ex ey ne =
      same_false (without a v) (without b w)
      (λ e. ne (sym (left_at v a i x ex) ∙ ap (λ (r : Row). get_or r i 0) e ∙ left_at w b i y ey))

-- cell p of a table has d + 1 vertices
pub size_in : (d s p : ℕ) (ws : List ℕ) → Inside d s p ws → length (row_in d ws p) ≡ suc d
size_in d s p ws h = row-long d _ (record_long d s p ws h.number h.long)

-- a fine record ascends
pub rising : (d v s p : ℕ) (ws : List ℕ) → length ws ≡ table_length d s → p < s → Fine d v ws p → Asc (row_in d ws p)
rising d v s p ws long h fine =
    falls_not d (row_in d ws p) (row-long d _ (record_long d s p ws h long))
    (none_below (λ j. leb (get_or (row_in d ws p) (suc j) 0) (get_or (row_in d ws p) j 0)) d
    (λ j l. lt-leb (get_or (row_in d ws p) (suc j) 0) (get_or (row_in d ws p) j 0) (fine.up j l)))

-- two faces of one cell differ
pub one_cell : (d s : ℕ) (ws : List ℕ) → ((p : ℕ) → p < s → length (row_in d ws p) ≡ suc d) → ((p : ℕ) → p < s → Asc (row_in d ws p)) →
    (p a b : ℕ) → p < s → a ≤ d → b ≤ d → face_in d ws p a ≡ face_in d ws p b → a ≡ b
one_cell d s ws long asc p a b hp ha hb e = go (dec_lt a b) (dec_lt b a)
  where
    go : Dec (a < b) → Dec (b < a) → a ≡ b
    go (yes l) k = absurd (without_inj (row_in d ws p) a b (asc p hp) l (omega (arith, long p hp)) e)
    go (no l) (yes k) = absurd (without_inj (row_in d ws p) b a (asc p hp) k (omega (arith, long p hp)) (sym e))
    go (no l) (no k) = omega arith

-- what a test of two numbers for a difference tells
pub told-apart : (r : Bool) (m n : ℕ) → r ≡ true → r ≡ not (eqb m n) → m ≡ n → ⊥
told-apart r m n e f z = eqb-false m n (not-true (eqb m n) (sym f ∙ e)) z
