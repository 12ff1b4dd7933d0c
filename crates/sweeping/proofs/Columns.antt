-- The vertices of a cell at a level and at the next, one behind the other: word m stands in cell k at place m - k.
--   column_at             where
--   column-low, column_high     it is a vertex of the cell at this level, or at the next
--   Columns               the words of the first j vertices are right
--   columns_none, columns_more, columns_all     of none; of one more; of all
-- Assumes nothing.
use Rattle.std.proofs.Common.{◌≡◌, ℕ, suc, ◌+◌, ◌-◌, ◌*◌, ◌<◌, ◌≤◌, List, refl, not-suc-le-zero, arith, le-leb}
use native.Mathlib.Decide.{dec_lt, dec_le}
use borrow.Author.Tests.{lt-leb}
use Rattle.records.specs.Layout.{record_size, vertex_place}
use Rattle.sweeping.specs.Inner.Filling.{Right, Kept}
use Rattle.sweeping.specs.Inner.RecordWords.{lifted_vertex, swept_vertex}
use Rattle.sweeping.proofs.Filling.{kept-none, kept_then}

abbrev pub column_at : ℕ → ℕ → ℕ → ℕ
column_at d m k = k * record_size (suc d) + vertex_place (m - k)

module _ (d v s : ℕ) (ws : List ℕ) (i p : ℕ) where
  pub column-low : (j k : ℕ) → j ≤ d → k ≤ j → lifted_vertex d v s ws i p j ≡ swept_vertex d v s ws i p k (j - k)
  column-low j k hj hk =
      let here : k + (j - k) ≡ j = omega arith in
      rw (here, le-leb j d hj) refl

  pub column_high : (j k : ℕ) → j ≤ k → k ≤ d → lifted_vertex d v s ws (suc i) p j ≡ swept_vertex d v s ws i p k (j + (d + 1) - k)
  column_high j k hj hk =
      let here : k + (j + (d + 1) - k) ≡ j + (d + 1) = omega arith in
      let back : j + (d + 1) - suc d ≡ j = omega arith in
      rw (here, lt-leb (j + (d + 1)) d (omega arith), back) refl

pub record Columns (d at : ℕ) (words old : List ℕ) (j : ℕ) (buf : List ℕ) : Type 0 where
  pub kept : Kept at words old buf
  pub low : (m k : ℕ) → m < j → k ≤ m → Right at words buf (column_at d m k)
  pub high : (m k : ℕ) → m < j → m ≤ k → k ≤ d → Right at words buf (column_at d (m + (d + 1)) k)

module _ (d at : ℕ) (words old : List ℕ) where
  pub columns_none : Columns d at words old 0 old
  columns_none =
      record {
        kept = kept-none at words old;
        low = λ m k l n. absurd (not-suc-le-zero l);
        high = λ m k l n o. absurd (not-suc-le-zero l);
      }

  pub columns_more : (j : ℕ) (buf one two : List ℕ) → Columns d at words old j buf → Kept at words buf one → Kept at words one two →
      ((k : ℕ) → 0 ≤ k → k ≤ j → Right at words one (column_at d j k)) →
      ((k : ℕ) → j ≤ k → k ≤ d → Right at words two (column_at d (j + (d + 1)) k)) → Columns d at words old (j + 1) two
  columns_more j buf one two c first second low high =
      record {
        kept = kept_then at words old one two (kept_then at words old buf one c.kept first) second;
        low = λ m k l. lower m k (dec_lt m j) l;
        high = λ m k l. upper m k (dec_lt m j) l;
      }
    where
      still : (e : ℕ) → Right at words buf e → Right at words two e
      still e r = second.right e (first.right e r)

      lower : (m k : ℕ) → Dec (m < j) → m < j + 1 → k ≤ m → Right at words two (column_at d m k)
      lower m k (yes l) h hk = still _ (c.low m k l hk)
      lower m k (no l) h hk = let here : m ≡ j = omega arith in rw here (second.right _ (low k (omega arith) (omega arith)))

      upper : (m k : ℕ) → Dec (m < j) → m < j + 1 → m ≤ k → k ≤ d → Right at words two (column_at d (m + (d + 1)) k)
      upper m k (yes l) h hm hk = still _ (c.high m k l hm hk)
      upper m k (no l) h hm hk = let here : m ≡ j = omega arith in rw here (high k (omega arith) hk)

  -- those of all: each word of each cell
  pub columns_all : (j : ℕ) (buf : List ℕ) → d < j → Columns d at words old j buf → (k l : ℕ) → k ≤ d → l ≤ suc d →
      Right at words buf (k * record_size (suc d) + vertex_place l)
  columns_all j buf all c k l hk hl = go (dec_le (k + l) d)
    where
      go : Dec (k + l ≤ d) → Right at words buf (k * record_size (suc d) + vertex_place l)
      go (yes less) =
          let here : l ≡ k + l - k = omega arith in
          rw here (c.low (k + l) k (omega arith) (omega arith))
      go (no more) =
          let here : l ≡ k + l - suc d + (d + 1) - k = omega arith in
          rw here (c.high (k + l - suc d) k (omega arith) (omega arith) hk)
