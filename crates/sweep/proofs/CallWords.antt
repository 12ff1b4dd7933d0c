-- The words that the call sweep writes, and how many they are.
use mathlib.Core.Path.{◌≡◌, refl, sym, ap, ◌∙◌}
use mathlib.Core.List.{List}
use Prim.Native.Nat.{ℕ}
use lib.Dec.{eqb}
use lib.ListN.{length}
use borrow.Author.Tests.{eqb-true, not-false}
use Rattle.rules.specs.Calls.{accepted}
use Rattle.rules.proofs.Accepting.{accepted_by}
use Rattle.records.specs.Layout.{table_length}
use Rattle.sweep.specs.Sweep.{sweep_input, sweep_outcome, sweep_rules, swept_words, swept_length}
use Rattle.sweeping.specs.Inner.SweptWords.{all_words}
use Rattle.sweeping.proofs.SweptWords.{all_words_lem, all_long}

module _ (d v s h : ℕ) (ws : List ℕ) where
  pub call_words : (room : ℕ) → swept_words (sweep_input d v s h ws room) ≡ all_words d v s h ws
  unfolding swept_words
  call_words room = all_words_lem d v s h ws

  pub call_long : length ws ≡ table_length d s → (room : ℕ) → length (all_words d v s h ws) ≡ swept_length (sweep_input d v s h ws room)
  call_long long room = all_long d v s h ws long

-- an accepted call answers their count
pub swept-long : (d v s h : ℕ) (ws : List ℕ) (x k : ℕ) →
    sweep_outcome (sweep_input d v s h ws x) ≡ accepted k → k ≡ length (swept_words (sweep_input d v s h ws x))
unfolding sweep_outcome sweep_rules
swept-long d v s h ws x k e =
    let by = accepted_by sweep_rules swept_length (sweep_input d v s h ws x) k refl e in
    let words = eqb-true (length ws) (table_length d s) (not-false (eqb (length ws) (table_length d s)) (by.1 3)) in
    by.0 ∙ sym (call_long d v s h ws words x) ∙ ap length (sym (call_words d v s h ws x))
