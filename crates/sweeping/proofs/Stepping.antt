-- Records at the next level, written one after the other.
--   set_here              one more word is as it should be
--   row_put               a row that is copied is placed
--   row_stepped           a record that is copied from the first words of a row of steps is stepped
--   records_none, records_more    no record is stepped; one more is
-- Assumes nothing.
use Rattle.std.proofs.Common.{◌≡◌, ℕ, suc, ◌+◌, ◌*◌, ◌<◌, List, length, get_or, set, sym, ◌∙◌, not-suc-le-zero, arith, get_or-set_other}
use Rattle.std.proofs.Common.{◌≤◌, ◌++◌, take, drop, ap, get_or-set_same, get_or-take}
use Rattle.std.proofs.lemmas.List.{drop-drop}
use borrow.Rule.Slice.PartMut.{put_mid}
use native.Mathlib.Decide.{dec_lt}
use Rattle.words.proofs.Records.{record_fits}
use Rattle.records.specs.Layout.{record_size}
use Rattle.sweeping.specs.Inner.Raising.{step_of, Stepped, SteppedLevel, SteppedTo}
use Rattle.words.specs.Inner.Placed.{placed}
use Rattle.sweeping.proofs.Filling.{outside-none, placed_outside, placed_right}

-- one more word, whatever is known of each
pub set_here : (P : ℕ → ℕ → Type 0) (buf : List ℕ) (j w : ℕ) → j < length buf → ((q : ℕ) → q < j → P q (get_or buf q 0)) →
    P j w → (q : ℕ) → q < j + 1 → P q (get_or (set buf j w) q 0)
set_here P buf j w room all one q l = go (dec_lt q j)
  where
    go : Dec (q < j) → P q (get_or (set buf j w) q 0)
    go (yes m) = rw (get_or-set_other buf j q w 0 (λ e. omega arith)) (all q m)
    go (no m) = let here : q ≡ j = omega arith in rw (here, get_or-set_same buf j w 0 room) one

pub row_put : (to k : ℕ) (old ys : List ℕ) → k ≡ length ys → put_mid to k old ys ≡ placed to ys old
unfolding placed
row_put to k old ys e = ap (λ (r : List ℕ). take to old ++ (ys ++ r)) (drop-drop k to old ∙ ap (λ (m : ℕ). drop (to + m) old) e)

pub row_stepped : (n from to k : ℕ) (ts row old ys : List ℕ) → k ≡ n → to + n ≤ length old → ys ≡ take n row → length ys ≡ n →
    ((j : ℕ) → j < n → Stepped (get_or old (from + j) 0) (get_or ts j 0) (get_or row j 0)) →
    SteppedTo n from to ts old (put_mid to k old ys)
row_stepped n from to k ts row old ys e room is long all =
    let put : put_mid to k old ys ≡ placed to ys old = row_put to k old ys (e ∙ sym long) in
    rw put (record {
      outside = rw long at (placed_outside to ys old (omega (arith, long)));
      steps = λ j l.
          let word : get_or ys j 0 ≡ get_or row j 0 = ap (λ (xs : List ℕ). get_or xs j 0) is ∙ get_or-take n row j 0 l in
          rw (placed_right to ys old (omega (arith, long)) j (omega (arith, long)), word) (all j l);
    })

module _ (d v c n : ℕ) (old : List ℕ) where
  pub records_none : SteppedLevel d v c n 0 old old
  records_none = record { outside = outside-none n n old; steps = λ q j l. absurd (not-suc-le-zero l) }

  pub records_more : (q : ℕ) (ts buf new : List ℕ) → q < c → n ≡ c * record_size (suc d) →
      ((j : ℕ) → j < record_size (suc d) → get_or ts j 0 ≡ step_of d v c j) → SteppedLevel d v c n q old buf →
      SteppedTo (record_size (suc d)) (q * record_size (suc d)) (n + q * record_size (suc d)) ts buf new → SteppedLevel d v c n (q + 1) old new
  records_more q ts buf new few size is s t =
      record {
        outside =
            record {
              same = t.outside.same ∙ s.outside.same;
              before = λ x l. t.outside.before x (omega arith) ∙ s.outside.before x l;
              behind = λ x l. t.outside.behind x (omega (arith, record_fits (record_size (suc d)) c q few)) ∙ s.outside.behind x l;
            };
        steps = λ p j l m. go p j (dec_lt p q) l m;
      }
    where
      go : (p j : ℕ) → Dec (p < q) → p < q + 1 → j < record_size (suc d) →
          Stepped (get_or old (p * record_size (suc d) + j) 0) (step_of d v c j) (get_or new (n + (p * record_size (suc d) + j)) 0)
      go p j (yes l) h m =
          rw (t.outside.before (n + (p * record_size (suc d) + j)) (omega (arith, record_fits (record_size (suc d)) q p l))) (s.steps p j l m)
      go p j (no l) h m =
          let here : p ≡ q = omega arith in
          let low : get_or buf (q * record_size (suc d) + j) 0 ≡ get_or old (q * record_size (suc d) + j) 0 =
          s.outside.before _ (omega (arith, record_fits (record_size (suc d)) c q few)) in
          let place : n + (q * record_size (suc d) + j) ≡ n + q * record_size (suc d) + j = omega arith in
          rw (here, sym (is j m), sym low, place) (t.steps j m)
