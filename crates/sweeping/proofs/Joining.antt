-- The wings that join levels, written over one cell after the other.
--   Joined .. p buf               over the first p cells they are right
--   joined-none, joined_more      over none; over one more
--   bottom-inside, top-inside     their places are inside the level
-- Assumes nothing.
use Rattle.std.proofs.Common.{◌≡◌, ℕ, suc, ◌+◌, ◌*◌, ◌<◌, ◌≤◌, List, length, get_or, set, sym, ◌∙◌, not-suc-le-zero, arith}
use native.Mathlib.Decide.{dec_lt}
use Rattle.records.specs.Layout.{record_size, wing_place}
use Rattle.records.proofs.Parts.{inside}
use Rattle.prism.specs.Wings.{wing_above, wing_below}
use Rattle.sweeping.specs.Inner.Filling.{Right, Kept}
use Rattle.sweeping.specs.Inner.Raising.{prism_size}
use Rattle.sweeping.specs.Inner.SweptWords.{level_words, Ready}
use Rattle.sweeping.proofs.Filling.{kept-none, kept_set, set-right}
use Rattle.sweeping.proofs.LevelWords.{word_bottom, word_top}
use Rattle.sweeping.proofs.SweptWords.{level-long}

abbrev pub bottom : ℕ → ℕ → ℕ
bottom d p = p * prism_size d + wing_place (suc d) (suc d)

abbrev pub top : ℕ → ℕ → ℕ
top d p = p * prism_size d + (d * record_size (suc d) + wing_place (suc d) 0)

bottom-low : (d s p : ℕ) → p < s → bottom d p < s * prism_size d
bottom-low d s p hp =
    inside s (prism_size d) p (wing_place (suc d) (suc d)) hp
    (omega (arith, inside (d + 1) (record_size (suc d)) 0 (wing_place (suc d) (suc d)) (omega arith) (omega arith)))

top-low : (d s p : ℕ) → p < s → top d p < s * prism_size d
top-low d s p hp =
    inside s (prism_size d) p (d * record_size (suc d) + wing_place (suc d) 0) hp
    (inside (d + 1) (record_size (suc d)) d (wing_place (suc d) 0) (omega arith) (omega arith))

pub record Joined (d at : ℕ) (words old : List ℕ) (p : ℕ) (buf : List ℕ) : Type 0 where
  pub kept : Kept at words old buf
  pub below : (q : ℕ) → q < p → Right at words buf (bottom d q)
  pub above : (q : ℕ) → q < p → Right at words buf (top d q)

module _ (d v s h : ℕ) (ws : List ℕ) (ready : Ready d v s h ws) (i at : ℕ) (old : List ℕ)
    (room : at + length (level_words d v s h ws i) ≤ length old) where
  abbrev words : List ℕ
  words = level_words d v s h ws i

  pub bottom-inside : (p : ℕ) → p < s → bottom d p < length words
  bottom-inside p hp = rw (level-long d v s h ws ready.long i) (bottom-low d s p hp)

  pub top-inside : (p : ℕ) → p < s → top d p < length words
  top-inside p hp = rw (level-long d v s h ws ready.long i) (top-low d s p hp)

  pub joined-none : Joined d at words old 0 old
  joined-none =
      record {
        kept = kept-none at words old;
        below = λ q l. absurd (not-suc-le-zero l);
        above = λ q l. absurd (not-suc-le-zero l);
      }

  module _ (buf : List ℕ) (p w z : ℕ) (hp : p < s) (j : Joined d at words old p buf) (low : w ≡ wing_below d s h (λ q a. 0) i p 0)
      (high : z ≡ wing_above d s h (λ q a. 0) i p d) where
    abbrev one : List ℕ
    one = set buf (at + bottom d p) w

    abbrev two : List ℕ
    two = set one (at + top d p) z

    low_is : w ≡ get_or words (bottom d p) 0
    low_is = low ∙ sym (word_bottom d v s h ws ready.long i p hp)

    high_is : z ≡ get_or words (top d p) 0
    high_is = high ∙ sym (word_top d v s h ws ready.long i p hp)

    first : Kept at words old one
    first = kept_set at words old buf (bottom d p) w room (bottom-inside p hp) j.kept low_is

    -- what is right before the two stores is right after them
    still_one : (e : ℕ) → Right at words buf e → Right at words one e
    still_one = (kept_set at words buf buf (bottom d p) w (omega (arith, j.kept.outside.same)) (bottom-inside p hp)
        (kept-none at words buf) low_is).right

    still_two : (e : ℕ) → Right at words one e → Right at words two e
    still_two = (kept_set at words one one (top d p) z (omega (arith, first.outside.same)) (top-inside p hp)
        (kept-none at words one) high_is).right

    done : Joined d at words old (p + 1) two
    done =
        record {
          kept = kept_set at words old one (top d p) z room (top-inside p hp) first high_is;
          below = λ q l. lower q (dec_lt q p) l;
          above = λ q l. upper q (dec_lt q p) l;
        }
      where
        lower : (q : ℕ) → Dec (q < p) → q < p + 1 → Right at words two (bottom d q)
        lower q (yes l) m = still_two (bottom d q) (still_one (bottom d q) (j.below q l))
        lower q (no l) m =
            let here : q ≡ p = omega arith in
            rw here (still_two (bottom d p) (set-right at words old buf (bottom d p) w room (bottom-inside p hp) j.kept low_is))

        upper : (q : ℕ) → Dec (q < p) → q < p + 1 → Right at words two (top d q)
        upper q (yes l) m = still_two (top d q) (still_one (top d q) (j.above q l))
        upper q (no l) m =
            let here : q ≡ p = omega arith in
            rw here (set-right at words old one (top d p) z room (top-inside p hp) first high_is)

    pub joined_more : (x y : ℕ) → x ≡ at + bottom d p → y ≡ at + top d p → Joined d at words old (p + 1) (set (set buf x w) y z)
    joined_more x y ex ey = rw (ex, ey) done
