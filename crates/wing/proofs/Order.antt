-- The call wing by its rules: refused by row 2 or 3, or what becomes of the list.
-- Assumes nothing.
use mathlib.Core.Path.{◌≡◌, refl, ap, ◌∙◌}
use mathlib.Core.Bool.{false, not}
use mathlib.Core.List.{List}
use Prim.Native.Nat.{ℕ, ◌*◌}
use lib.Dec.{eqb}
use lib.ListN.{length}
use Rattle.rules.specs.Calls.{Outcome, refused, after}
use Rattle.rules.specs.Limits.{max_dimension}
use Rattle.rules.specs.Shapes.{shape_ok}
use Rattle.rules.proofs.Refusing.{First, refused-first, kept}
use Rattle.solids.specs.Accept.{solid_rules}
use Rattle.records.specs.Layout.{list_size}
use Rattle.solids.specs.Table.{table_of_list}
use Rattle.tables.specs.Inner.Tabled.{table_outcome, table_after}
use Rattle.wing.specs.Wing.{WingInput, wing_input, wing_length, wing_rules, wing_outcome, wing_buffer}

pub refuses : (i : WingInput) (out : List ℕ) (n : ℕ) → First wing_rules i n → (refused n ≡ wing_outcome i) × (out ≡ wing_buffer i out)
unfolding wing_rules solid_rules wing_outcome wing_buffer
refuses i out n h = let e = refused-first wing_rules wing_length i refl n h in (e, kept _ n (table_of_list i.list) out e)

module _ (d v s : ℕ) (cells : List ℕ) (further : ℕ) (out : List ℕ) (two : not (shape_ok max_dimension d v s) ≡ false)
    (three : not (eqb (length cells) (s * list_size d)) ≡ false) where
  told : (room : ℕ) → table_outcome d v s cells room further ≡ wing_outcome (wing_input d v s cells room further)
  unfolding wing_outcome wing_rules solid_rules table_outcome
  told room = rw (two, three) refl

  pub passes : (o : Outcome ℕ) (new : List ℕ) → o ≡ table_outcome d v s cells (length out) further →
      new ≡ table_after d v s cells further out →
      (o ≡ wing_outcome (wing_input d v s cells (length out) further)) × (new ≡ wing_buffer (wing_input d v s cells (length out) further) out)
  unfolding wing_buffer table_after
  passes o new e w =
      (e ∙ told (length out), w ∙ ap (λ o. after o (table_of_list (record { d = d; v = v; s = s; words = cells })) out) (told (length out)))
