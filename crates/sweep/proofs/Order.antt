-- The call sweep by its rules: refused by the first that applies, or accepted where none does.
--   small             what row 12 says where it does not apply
-- Assumes nothing.
use mathlib.Core.Path.{◌≡◌, refl, ap, ◌∙◌}
use mathlib.Core.Bool.{false, ◌||◌}
use mathlib.Core.List.{List}
use Prim.Native.Nat.{ℕ, ◌≤◌}
use lib.Dec.{ltb}
use borrow.Author.Tests.{ltb-false}
use Rattle.rules.specs.Calls.{accepted, refused, written}
use Rattle.rules.specs.Limits.{max_vertices, max_cells, swept_vertices}
use Rattle.rules.proofs.Refusing.{First, None, refused-first, accepted-none, kept, put}
use Rattle.solids.proofs.Tests.{or_false}
use Rattle.prism.specs.Swept.{swept_cells}
use Rattle.sweep.specs.Sweep.{SweepInput, swept_length, swept_words, sweep_rules, sweep_outcome, sweep_buffer}

module _ (i : SweepInput) (out : List ℕ) where
  pub refuses : (n : ℕ) → First sweep_rules i n → (refused n ≡ sweep_outcome i) × (out ≡ sweep_buffer i out)
  unfolding sweep_rules sweep_outcome sweep_buffer
  refuses n h = let e = refused-first sweep_rules swept_length i refl n h in (e, kept _ n (swept_words i) out e)

  pub accepts : (k : ℕ) (new : List ℕ) → None sweep_rules i → k ≡ swept_length i → new ≡ written (swept_words i) out →
      (accepted k ≡ sweep_outcome i) × (new ≡ sweep_buffer i out)
  unfolding sweep_outcome sweep_buffer
  accepts k new h e w = let o = accepted-none sweep_rules swept_length i h in (ap accepted e ∙ o, w ∙ put _ _ (swept_words i) out o)

pub small : (d v s h : ℕ) → (ltb max_vertices (swept_vertices v h) || ltb max_cells (swept_cells d s h)) ≡ false →
    (swept_vertices v h ≤ max_vertices) × (swept_cells d s h ≤ max_cells)
small d v s h e =
    let parts = or_false (ltb max_vertices (swept_vertices v h)) (ltb max_cells (swept_cells d s h)) e in
    (ltb-false max_vertices (swept_vertices v h) parts.0, ltb-false max_cells (swept_cells d s h) parts.1)
