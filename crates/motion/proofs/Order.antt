-- The call move by its rules: refused by the first that applies, or accepted where none does.
-- Assumes nothing.
use mathlib.Core.Path.{◌≡◌, refl, ap, ap₂, ◌∙◌}
use mathlib.Core.Bool.{Bool, true, false}
use mathlib.Core.List.{List, [], ◌∷◌, ◌++◌}
use Prim.Native.Nat.{ℕ}
use lib.Dec.{ltb}
use lib.Ieee.{Float}
use Rattle.rules.specs.Calls.{accepted, refused, written}
use Rattle.rules.proofs.Refusing.{First, None, refused-first, accepted-none, kept, put}
use Rattle.motion.specs.Move.{MoveInput, moved_levels, moved_length, move_tests, move_rules, move_outcome, move_buffer}

module _ (i : MoveInput) (out : List Float) where
  pub refuses : (n : ℕ) → First move_rules i n → (refused n ≡ move_outcome i) × (out ≡ move_buffer i out)
  unfolding move_rules move_outcome move_buffer
  refuses n h = let e = refused-first move_rules moved_length i refl n h in (e, kept _ n (moved_levels i) out e)

  pub accepts : (k : ℕ) (new : List Float) → None move_rules i → k ≡ moved_length i → new ≡ written (moved_levels i) out →
      (accepted k ≡ move_outcome i) × (new ≡ move_buffer i out)
  unfolding move_outcome move_buffer
  accepts k new h e w = let o = accepted-none move_rules moved_length i h in (ap accepted e ∙ o, w ∙ put _ _ (moved_levels i) out o)

-- the room is tested last
module _ (i : MoveInput) where
  pub full : None move_tests i → ltb i.room (moved_length i) ≡ true → First move_rules i 15
  unfolding move_rules
  full h e = ap₂ {C = List Bool} (λ tests last. tests ++ last ∷ []) h e

  pub free : None move_tests i → ltb i.room (moved_length i) ≡ false → None move_rules i
  unfolding move_rules
  free h e = ap₂ {C = List Bool} (λ tests last. tests ++ last ∷ []) h e
