-- What is sent of the words that a call wrote.
--   lesser_le         the lesser of two numbers is at most each
--   room_cut          room beyond b changes no test where no more than b is needed
--   count_fits        an accepted call's count is at most the words it was lent
--   sent_is           what is sent are the bytes of its answer
--   room_fits         the room is at most the array's words, and the lent buffer's
--   Relayed           what is known where a part of an array was lent
--   lent_fits, lent_long, send_fits, relayed      so it can be sent, and what is sent are the bytes of the call's answer
-- Assumes nothing.
use mathlib.Core.Path.{◌≡◌, refl, sym, ap, ap₂, ◌∙◌}
use mathlib.Core.Bool.{Bool, true, false, cond}
use mathlib.Core.List.{List, ◌++◌}
use Prim.Native.Nat.{ℕ, ◌*◌, ◌/◌, ◌≤◌}
use native.Mathlib.Omega.{arith}
use lib.Dec.{leb, ltb}
use lib.ListN.{length, take, drop, length-append}
use lib.Seq.{take_at}
use borrow.Author.Tests.{leb-true, leb-false, le-ltb}
use Rattle.words.specs.Bytes.{bytes_of}
use Rattle.words.proofs.Bytes.{bytes-length}
use Rattle.rules.specs.Calls.{Outcome, accepted, refused, after}
use Rattle.winged.specs.Inner.Sent.{lesser, count_of, sent}

pub lesser_le : (a b : ℕ) → (lesser a b ≤ a) × (lesser a b ≤ b)
lesser_le a b = go (leb a b) refl
  where
    go : (t : Bool) → leb a b ≡ t → (cond t a b ≤ a) × (cond t a b ≤ b)
    go true e = (omega arith, leb-true a b e)
    go false e = (omega (arith, leb-false a b e), omega arith)

pub room_cut : (x b n : ℕ) → n ≤ b → ltb (lesser x b) n ≡ ltb x n
room_cut x b n h = go (leb x b) refl
  where
    go : (t : Bool) → leb x b ≡ t → ltb (cond t x b) n ≡ ltb x n
    go true e = refl
    go false e = le-ltb b n h ∙ sym (le-ltb x n (omega (arith, leb-false x b e)))

module _ (T t w out : List ℕ) where
  pub count_fits : (o : Outcome ℕ) → ((k : ℕ) → o ≡ accepted k → k ≡ length T) → w ≡ after o T t → count_of o ≤ length w
  count_fits (accepted k) long e = omega (arith, long k refl, ap length e, length-append T (drop (length T) t))
  count_fits (refused k) long e = omega arith

  pub sent_is : (o : Outcome ℕ) → ((k : ℕ) → o ≡ accepted k → k ≡ length T) → w ≡ after o T t →
      sent o w out ≡ after o (bytes_of T) out
  sent_is (accepted k) long e =
      let twice : k * 2 ≡ length (bytes_of T) = omega (arith, long k refl, bytes-length T) in
      ap₂ (λ (a : List ℕ) (n : ℕ). bytes_of a ++ drop n out) (ap (take k) e ∙ take_at T (drop (length T) t) k (sym (long k refl))) twice
  sent_is (refused k) long e = refl

pub room_fits : (m : ℕ) (words out : List ℕ) → m ≡ lesser (length out / 2) (length words) → (m ≤ length words) × (m * 2 ≤ length out)
room_fits m words out e = let l = lesser_le (length out / 2) (length words) in (omega (arith, l.1), omega (arith, l.0))

-- w is what a call left in the first m words of an array: accepted, it answers the count of its words T, and they stand there
pub record Relayed (words out w T : List ℕ) (m : ℕ) (o : Outcome ℕ) : Type 0 where
  pub room : m * 2 ≤ length out
  pub same : length w ≡ m
  pub long : (k : ℕ) → o ≡ accepted k → k ≡ length T
  pub content : w ≡ after o T (take m words)

module _ {words out w T : List ℕ} {m : ℕ} {o : Outcome ℕ} (r : Relayed words out w T m o) where
  pub lent_fits : m ≤ length (w ++ drop m words)
  lent_fits = omega (arith, length-append w (drop m words), r.same)

  lent_is : take m (w ++ drop m words) ≡ w
  lent_is = take_at w (drop m words) m r.same

  pub lent_long : length (take m (w ++ drop m words)) ≡ m
  lent_long = ap length lent_is ∙ r.same

  pub send_fits : (count_of o ≤ length (take m (w ++ drop m words))) × (count_of o * 2 ≤ length out)
  send_fits =
      let fit = count_fits T (take m words) w out o r.long r.content in
      (omega (arith, fit, ap length lent_is), omega (arith, fit, r.same, r.room))

  pub relayed : sent o (take m (w ++ drop m words)) out ≡ after o (bytes_of T) out
  relayed = ap (λ x. sent o x out) lent_is ∙ sent_is T (take m words) w out o r.long r.content
