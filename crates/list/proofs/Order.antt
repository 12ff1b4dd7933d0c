-- The call list by its rules: refused by the first that applies, or accepted where none does.
-- Assumes nothing.
use mathlib.Core.Path.{◌≡◌, refl, ap, ◌∙◌}
use mathlib.Core.List.{List}
use Prim.Native.Nat.{ℕ}
use Rattle.rules.specs.Calls.{accepted, refused, written}
use Rattle.rules.proofs.Refusing.{First, None, refused-first, accepted-none, kept, put}
use Rattle.list.specs.List.{ListInput, list_text, list_length, list_rules, list_outcome, list_buffer}

module _ (i : ListInput) (out : List ℕ) where
  pub refuses : (n : ℕ) → First list_rules i n → (refused n ≡ list_outcome i) × (out ≡ list_buffer i out)
  unfolding list_rules list_outcome list_buffer
  refuses n h = let e = refused-first list_rules list_length i refl n h in (e, kept _ n (list_text i) out e)

  pub accepts : (k : ℕ) (new : List ℕ) → None list_rules i → k ≡ list_length i → new ≡ written (list_text i) out →
      (accepted k ≡ list_outcome i) × (new ≡ list_buffer i out)
  unfolding list_outcome list_buffer
  accepts k new h e w = let o = accepted-none list_rules list_length i h in (ap accepted e ∙ o, w ∙ put _ _ (list_text i) out o)
