-- The cases of writing a table, from what was found of rows 6 to 11 and of the room.
--   refuses           one of these rows refuses the list
--   no_room           none does, and the table or the wings do not fit
--   accepts           none does, and they fit
-- Assumes nothing.
use mathlib.Core.Path.{◌≡◌, refl, ap, ◌∙◌}
use mathlib.Core.Bool.{Bool, true, false, ◌||◌}
use mathlib.Core.List.{List, [], ◌∷◌}
use Prim.Native.Nat.{ℕ, ◌*◌}
use lib.Dec.{ltb}
use lib.ListN.{length}
use Rattle.rules.specs.Calls.{Rule, accepted, refused, first_refusal, written}
use Rattle.rules.specs.Numbers.{number_of}
use Rattle.rules.specs.declared.refusal.Refusal.{Refusal}
use Rattle.rules.proofs.Answers.{all_numbered}
use Rattle.rules.proofs.Refusing.{kept, put, refused_by, passed_by, refused-first, accepted-none}
use Rattle.solids.specs.Accept.{Listed, solid_rules}
use Rattle.records.specs.Layout.{list_size, table_length, wings_length}
use Rattle.solids.specs.Table.{table_of_list}
use Rattle.tables.specs.Inner.Held.{record_list}
use Rattle.tables.specs.Inner.Tabled.{list_with, word_count, too_short, table_outcome, table_after}
use Rattle.tables.proofs.Taking.{whole_list}

numbered : all_numbered solid_rules ≡ true
unfolding solid_rules
numbered = refl

module _ (d v s : ℕ) (ws : List ℕ) (further : ℕ) (out : List ℕ) (len : length ws ≡ s * list_size d) where
  -- what row 15 tests
  abbrev short : Bool
  short = ltb (length out) (table_length d s) || ltb further (wings_length d s)

  abbrev last : List (Rule Listed)
  last = too_short (length out) further ∷ []

  found : (n : ℕ) → n ≡ first_refusal solid_rules (record_list (list_size d) d v s ws) → n ≡ first_refusal solid_rules (list_with d v s ws)
  found n e = e ∙ ap (first_refusal solid_rules) (whole_list d v s ws len)

  pub refuses : (r : Refusal) → number_of r ≡ first_refusal solid_rules (record_list (list_size d) d v s ws) →
      (refused (number_of r) ≡ table_outcome d v s ws (length out) further) × (out ≡ table_after d v s ws further out)
  unfolding table_outcome table_after
  refuses r e =
      let o = refused_by solid_rules last word_count (list_with d v s ws) numbered r (found (number_of r) e) in
      (o, kept _ (number_of r) (table_of_list (list_with d v s ws)) out o)

  module _ (none : 0 ≡ first_refusal solid_rules (record_list (list_size d) d v s ws)) where
    pub no_room : short ≡ true → (refused 15 ≡ table_outcome d v s ws (length out) further) × (out ≡ table_after d v s ws further out)
    unfolding table_outcome table_after
    no_room e =
        let o = refused-first last word_count (list_with d v s ws) refl 15 (ap (λ t. t ∷ []) e)
        ∙ passed_by solid_rules last word_count (list_with d v s ws) numbered (found 0 none) in
        (o, kept _ 15 (table_of_list (list_with d v s ws)) out o)

    pub accepts : (k : ℕ) (new : List ℕ) → short ≡ false →
        k ≡ table_length d s → new ≡ written (table_of_list (list_with d v s ws)) out →
        (accepted k ≡ table_outcome d v s ws (length out) further) × (new ≡ table_after d v s ws further out)
    unfolding table_outcome table_after
    accepts k new e count w =
        let o = accepted-none last word_count (list_with d v s ws) (ap (λ t. t ∷ []) e)
        ∙ passed_by solid_rules last word_count (list_with d v s ws) numbered (found 0 none) in
        (ap accepted count ∙ o, w ∙ put _ _ (table_of_list (list_with d v s ws)) out o)
