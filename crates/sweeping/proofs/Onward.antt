-- Words that go on from the two levels below.
--   Going n at old buf j      the first j of n words are raised
--   going_starts, going_on    none is; one more is
-- Assumes nothing.
use Rattle.std.proofs.Common.{◌≡◌, ℕ, ◌+◌, ◌<◌, ◌≤◌, List, length, get_or, set, sym, not-suc-le-zero, arith, get_or-set_other, get_or-set_same}
use native.Mathlib.Decide.{dec_lt}
use Rattle.sweeping.specs.Inner.Filling.{Outside}
use Rattle.sweeping.specs.Inner.Raising.{Ahead}
use Rattle.sweeping.proofs.Filling.{outside-none, outside_set}

pub record Going (n at : ℕ) (old buf : List ℕ) (j : ℕ) : Type 0 where
  pub outside : Outside (at + n + n) n old buf
  pub ahead : (e : ℕ) → e < j → Ahead (get_or old (at + e) 0) (get_or old (at + n + e) 0) (get_or buf (at + n + n + e) 0)

module _ (n at : ℕ) (old : List ℕ) where
  pub going_starts : Going n at old old 0
  going_starts = record { outside = outside-none (at + n + n) n old; ahead = λ e l. absurd (not-suc-le-zero l) }

  pub going_on : (buf : List ℕ) (j r : ℕ) → j < n → at + n + n + n ≤ length old → Going n at old buf j →
      Ahead (get_or buf (at + j) 0) (get_or buf (at + n + j) 0) r → Going n at old (set buf (at + n + n + j) r) (j + 1)
  going_on buf j r hj room g a =
      record { outside = outside_set (at + n + n) n j r old buf hj g.outside; ahead = λ e l. go e (dec_lt e j) l }
    where
      low : get_or buf (at + j) 0 ≡ get_or old (at + j) 0
      low = g.outside.before (at + j) (omega arith)

      high : get_or buf (at + n + j) 0 ≡ get_or old (at + n + j) 0
      high = g.outside.before (at + n + j) (omega arith)

      go : (e : ℕ) → Dec (e < j) → e < j + 1 →
          Ahead (get_or old (at + e) 0) (get_or old (at + n + e) 0) (get_or (set buf (at + n + n + j) r) (at + n + n + e) 0)
      go e (yes l) m =
          rw (get_or-set_other buf (at + n + n + j) (at + n + n + e) r 0 (λ q. omega arith)) (g.ahead e l)
      go e (no l) m =
          let here : e ≡ j = omega arith in
          rw (here, get_or-set_same buf (at + n + n + j) r 0 (omega (arith, g.outside.same)), sym low, sym high) a
