-- The words of a level, by cell, swept cell and place in its record.
--   Split n s e, split    word e of s records of n words
--   Place d s e           word e of a level is word r of the record of cell k over cell p
--   place_of              each word has such a place
--   word_at               and is that word
--   word_bottom, word_top     the wings that join levels
-- Assumes nothing.
use Rattle.std.proofs.Common.{◌≡◌, ℕ, zero, suc, ◌+◌, ◌-◌, ◌*◌, ◌<◌, ◌≤◌, List, length, get_or, sym, refl, ap, ◌∙◌, suc-mul, zero-mul, arith}
use Rattle.std.proofs.Common.{eq-eqb, ne_eqb}
use native.Mathlib.Decide.{dec_lt}
use Rattle.words.proofs.Records.{part_tabulated}
use Rattle.records.specs.Layout.{record_size, wing_place, table_length}
use Rattle.records.proofs.Parts.{part_at, inside}
use Rattle.prism.specs.Wings.{wing_above, wing_below}
use Rattle.sweeping.specs.Inner.Raising.{prism_size}
use Rattle.sweeping.specs.Inner.SweptWords.{record_words, prism_words, level_words}
use Rattle.sweeping.proofs.RecordLaws.{record_long, word_wing}
use Rattle.sweeping.proofs.SweptWords.{prism_is, level_is, prism-long}

-- a word of s records of n words
pub record Split (n s e : ℕ) : Type 0 where
  pub number : ℕ
  pub place : ℕ
  pub few : number < s
  pub low : place < n
  pub is : e ≡ number * n + place

pub split : (n s e : ℕ) → e < s * n → Split n s e
split n zero e h = absurd (omega (arith, zero-mul n))
split n (suc s) e h = go (dec_lt e n) (split n s (e - n))
  where
    go : Dec (e < n) → (e - n < s * n → Split n s (e - n)) → Split n (suc s) e
    go (yes l) rest = record { number = 0; place = e; few = omega arith; low = l; is = omega (arith, zero-mul n) }
    go (no l) rest =
        let x = rest (omega (arith, suc-mul s n)) in
        record {
          number = suc x.number;
          place = x.place;
          few = omega (arith, x.few);
          low = x.low;
          is = omega (arith, x.is, suc-mul x.number n);
        }

pub record Place (d s e : ℕ) : Type 0 where
  pub p : ℕ
  pub k : ℕ
  pub r : ℕ
  pub cell : p < s
  pub swept : k ≤ d
  pub place : r < record_size (suc d)
  pub is : e ≡ p * prism_size d + (k * record_size (suc d) + r)

pub place_of : (d s e : ℕ) → e < s * prism_size d → Place d s e
place_of d s e h =
    let x = split (prism_size d) s e h in
    let y = split (record_size (suc d)) (d + 1) x.place x.low in
    record {
      p = x.number;
      k = y.number;
      r = y.place;
      cell = x.few;
      swept = omega (arith, y.few);
      place = y.low;
      is = x.is ∙ ap (λ n. x.number * prism_size d + n) y.is;
    }

module _ (d v s h : ℕ) (ws : List ℕ) (long : length ws ≡ table_length d s) (i p : ℕ) (hp : p < s) where
  pub prism_at : (k r : ℕ) → k ≤ d → r < record_size (suc d) →
      get_or (prism_words d v s h ws i p) (k * record_size (suc d) + r) 0 ≡ get_or (record_words d v s h ws i p k) r 0
  prism_at k r hk hr =
      ap (λ l. get_or l (k * record_size (suc d) + r) 0) (prism_is d v s h ws i p)
      ∙ sym (part_at (record_size (suc d)) k r _ 0 hr)
      ∙ ap (λ l. get_or l r 0)
      (part_tabulated (record_size (suc d)) (d + 1) k (record_words d v s h ws i p)
      (λ x l. record_long d v s h ws i p x long hp (omega arith)) (omega arith))

  pub word_at : (k r : ℕ) → k ≤ d → r < record_size (suc d) →
      get_or (level_words d v s h ws i) (p * prism_size d + (k * record_size (suc d) + r)) 0 ≡ get_or (record_words d v s h ws i p k) r 0
  word_at k r hk hr =
      let e = k * record_size (suc d) + r in
      let few : e < prism_size d = inside (d + 1) (record_size (suc d)) k r (omega arith) hr in
      ap (λ l. get_or l (p * prism_size d + e) 0) (level_is d v s h ws i)
      ∙ sym (part_at (prism_size d) p e _ 0 few)
      ∙ ap (λ l. get_or l e 0)
      (part_tabulated (prism_size d) s p (prism_words d v s h ws i) (λ x l. prism-long d v s h ws long i x l) hp)
      ∙ prism_at k r hk hr

  pub word_bottom : get_or (level_words d v s h ws i) (p * prism_size d + wing_place (suc d) (suc d)) 0 ≡ wing_below d s h (λ q a. 0) i p 0
  word_bottom =
      let place : wing_place (suc d) (suc d) ≡ 0 * record_size (suc d) + wing_place (suc d) (suc d) = omega arith in
      ap (λ n. get_or (level_words d v s h ws i) (p * prism_size d + n) 0) place
      ∙ word_at 0 (wing_place (suc d) (suc d)) (omega arith) (omega arith)
      ∙ word_wing d v s h ws i p 0 long hp (omega arith) (suc d) (omega arith)
      ∙ rw (ne_eqb (suc d) 0 (λ q. omega arith), eq-eqb (suc d) (suc d) refl) refl

  pub word_top : get_or (level_words d v s h ws i) (p * prism_size d + (d * record_size (suc d) + wing_place (suc d) 0)) 0
      ≡ wing_above d s h (λ q a. 0) i p d
  word_top =
      word_at d (wing_place (suc d) 0) (omega arith) (omega arith)
      ∙ word_wing d v s h ws i p d long hp (omega arith) 0 (omega arith)
