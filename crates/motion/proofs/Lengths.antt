-- What an accepted call of move answers, and leaves at the front of its buffer.
--   moved-long            the count of its floats
--   moved_front           and these, at the front
-- Assumes nothing.
use mathlib.Core.Path.{◌≡◌, refl, sym, ap, ◌∙◌}
use mathlib.Core.List.{List}
use Prim.Native.Nat.{ℕ, suc, ◌*◌, ◌≤◌}
use native.Mathlib.Nat.{mul_assoc}
use lib.Dec.{eqb}
use lib.Ieee.{Float}
use lib.ListN.{length, take}
use borrow.Author.Tests.{eqb-true, not-false}
use Rattle.rules.specs.Calls.{accepted, after}
use Rattle.rules.proofs.Accepting.{accepted_by, front_of}
use Rattle.points.proofs.LevelLaws.{length-levels}
use Rattle.motion.specs.Move.{MoveInput, moved_length, moved_levels, move_outcome, move_buffer, move_rules}

moved-long : (i : MoveInput) (k : ℕ) → move_outcome i ≡ accepted k → k ≡ length (moved_levels i)
unfolding move_outcome move_rules moved_levels
moved-long i k e =
    let by = accepted_by move_rules moved_length i k refl e in
    let points = eqb-true (length i.points) (i.v * i.n) (not-false (eqb (length i.points) (i.v * i.n)) (by.1 3)) in
    by.0 ∙ mul_assoc (suc i.h) i.v i.n ∙ sym (length-levels i.step i.n i.v i.h i.points points)

pub moved_front : (i : MoveInput) (out w : List Float) (k : ℕ) → w ≡ move_buffer i out →
    move_outcome i ≡ accepted k → (k ≤ length w) × (take k w ≡ moved_levels i)
unfolding move_buffer
moved_front i out w k e a = front_of (moved_levels i) out w k (e ∙ ap (λ o. after o (moved_levels i) out) a) (moved-long i k a)
