-- The calls of the program, one after the other.
--   swept_front                               what an accepted sweep leaves at the front of its buffer
--   moved_limits, swept_limits                and its numbers
--   list_counted, list_left                   the last call
--   moved-.., swept-.., winged-..             each stage by its call's outcome
-- Assumes nothing.
use mathlib.Core.Path.{◌≡◌, refl, ap, ◌∙◌}
use mathlib.Core.List.{List}
use Prim.Native.Nat.{ℕ, suc, ◌≤◌}
use lib.Ieee.{Float}
use lib.ListN.{length, take}
use borrow.Author.Tests.{ltb-false}
use Rattle.rules.specs.Limits.{swept_vertices}
use Rattle.rules.specs.Calls.{Outcome, accepted, refused, after}
use Rattle.rules.proofs.Accepting.{accepted_by, front_of}
use Rattle.solids.specs.Table.{table_of_list}
use Rattle.wing.specs.Wing.{wing_input, wing_outcome}
use Rattle.prism.specs.Swept.{swept_cells}
use Rattle.sweep.specs.Sweep.{sweep_outcome, sweep_buffer, sweep_rules, swept_length, swept_words, sweep_input}
use Rattle.rules.proofs.InLimits.{SweepLimits, sweep_limits_are, move_limits_are}
use Rattle.motion.specs.Move.{MoveInput, move_input, moved_length, moved_levels, move_outcome, move_rules}
use Rattle.points.specs.declared.step.Step.{Step}
use Rattle.list.specs.List.{ListInput, list_input, list_text, list_outcome, list_buffer, list_rules}
use Rattle.sweep.proofs.CallWords.{swept-long}
use Rattle.page.specs.Key.{word_room, float_room, then_call}
use Rattle.page.specs.Inner.Stages.{counted, page_after, list_key, moved_key, swept_key, winged_key}

pub moved_limits : (i : MoveInput) (k : ℕ) → move_outcome i ≡ accepted k → (i.n ≤ 8) × (i.v ≤ 4096) × (i.h ≤ 64)
unfolding move_outcome move_rules
moved_limits i k e =
    let by = accepted_by move_rules moved_length i k refl e in
    let l = move_limits_are i.n i.v i.h (by.1 2) in
    (l.axes, l.vertices, l.steps)

module _ (d v s h : ℕ) (ws : List ℕ) (x k : ℕ) (a : sweep_outcome (sweep_input d v s h ws x) ≡ accepted k) where
  pub swept_limits : SweepLimits d v s h
  unfolding sweep_outcome sweep_rules
  swept_limits =
      sweep_limits_are d v s h ((accepted_by sweep_rules swept_length (sweep_input d v s h ws x) k refl a).1 2)

  pub swept_front : (out w : List ℕ) → w ≡ sweep_buffer (sweep_input d v s h ws x) out →
      (k ≤ length w) × (take k w ≡ swept_words (sweep_input d v s h ws x))
  unfolding sweep_buffer
  swept_front out w e =
      let words = swept_words (sweep_input d v s h ws x) in
      front_of words out w k (e ∙ ap (λ o. after o words out) a) (swept-long d v s h ws x k a)

-- an accepted key fits the room
pub list-long : (i : ListInput) (k : ℕ) → list_outcome i ≡ accepted k → (k ≡ length (list_text i)) × (length (list_text i) ≤ i.room)
unfolding list_outcome list_rules
list-long i k e =
    let by = accepted_by list_rules (λ i. length (list_text i)) i k refl e in
    (by.0, ltb-false i.room (length (list_text i)) (by.1 15))

pub list_counted : (i : ListInput) → list_outcome i ≡ counted (list_key i)
unfolding list_key
list_counted i = go (list_outcome i) refl
  where
    go : (o : Outcome ℕ) → list_outcome i ≡ o → o ≡ counted (then_call o (λ k. accepted (list_text i)))
    go (accepted k) e = ap accepted (list-long i k e).0
    go (refused n) e = refl

pub list_left : (i : ListInput) (out : List ℕ) → list_buffer i out ≡ page_after (list_key i) out
unfolding list_key list_buffer
list_left i out = go (list_outcome i)
  where
    go : (o : Outcome ℕ) → after o (list_text i) out ≡ page_after (then_call o (λ k. accepted (list_text i))) out
    go (accepted k) = refl
    go (refused n) = refl

module _ (version d n v s h : ℕ) (step : Step) (ws : List ℕ) (ps : List Float) (room : ℕ) where
  pub moved-refused : (k : ℕ) → move_outcome (move_input n v h step ps float_room) ≡ refused k →
      moved_key version d n v s h step ws ps room ≡ refused k
  unfolding moved_key
  moved-refused k e = rw e refl

  pub moved-accepted : (k : ℕ) → move_outcome (move_input n v h step ps float_room) ≡ accepted k →
      moved_key version d n v s h step ws ps room
      ≡ list_key (list_input version d n (swept_vertices v h) s ws (moved_levels (move_input n v h step ps float_room)) room)
  unfolding moved_key
  moved-accepted k e = rw e refl

  pub swept-refused : (k : ℕ) → sweep_outcome (sweep_input d v s h ws word_room) ≡ refused k → swept_key version d n v s h step ws ps room ≡ refused k
  unfolding swept_key
  swept-refused k e = rw e refl

  pub swept-accepted : (k : ℕ) → sweep_outcome (sweep_input d v s h ws word_room) ≡ accepted k →
      swept_key version d n v s h step ws ps room
      ≡ moved_key version (suc d) n v (swept_cells d s h) h step (swept_words (sweep_input d v s h ws word_room)) ps room
  unfolding swept_key
  swept-accepted k e = rw e refl

  pub winged-refused : (k : ℕ) → wing_outcome (wing_input d v s ws word_room word_room) ≡ refused k →
      winged_key version d n v s h step ws ps room ≡ refused k
  unfolding winged_key
  winged-refused k e = rw e refl

  pub winged-accepted : (k : ℕ) → wing_outcome (wing_input d v s ws word_room word_room) ≡ accepted k →
      winged_key version d n v s h step ws ps room ≡ swept_key version d n v s h step
      (table_of_list (wing_input d v s ws word_room word_room).list) ps room
  unfolding winged_key
  winged-accepted k e = rw e refl
