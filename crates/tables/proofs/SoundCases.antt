-- The cases of soundness, as the code finds them; and fresh memory.
use mathlib.Core.Path.{◌≡◌, refl, sym, ap, ◌∙◌}
use mathlib.Core.Bool.{Bool, true, false, not}
use mathlib.Core.List.{List}
use Prim.Native.Nat.{ℕ}
use native.Mathlib.Omega.{arith}
use lib.Dec.{eqb}
use lib.ListN.{length, replicate, length-replicate, get_or-replicate}
use borrow.Author.Tests.{eq-eqb, ne_eqb, not-true, not-false}
use Rattle.rules.specs.Calls.{first_refusal}
use Rattle.rules.specs.Limits.{max_dimension}
use Rattle.rules.specs.Shapes.{shape_ok}
use Rattle.simplex.specs.Cell.{Sign, same_row}
use Rattle.solids.specs.Accept.{acceptable, solid_rules}
use Rattle.tables.specs.Inner.Held.{Blank, Taken, held_words, record_list}
use Rattle.records.specs.Layout.{empty, record_size, table_length}
use Rattle.solids.specs.Table.{own_table, sound}
use Rattle.rules.specs.Numbers.{number_of}
use Rattle.rules.specs.declared.refusal.Refusal.{Refusal}
use Rattle.rules.proofs.Answers.{number_of_range}
use Rattle.rules.proofs.InLimits.{limits_are}
use Rattle.tables.proofs.Taking.{taken_table}

pub fresh_blank : Blank (replicate 32768 empty)
fresh_blank = (length-replicate {A = ℕ} 32768 empty, λ g h. get_or-replicate {A = ℕ} 32768 g empty 0 h)

module _ (d v s : ℕ) (ws : List ℕ) where
  pub unsound-outside : not (shape_ok max_dimension d v s) ≡ true → false ≡ sound d v s ws
  unfolding sound
  unsound-outside e = rw (not-true (shape_ok max_dimension d v s) e) refl

  module _ (ok : not (shape_ok max_dimension d v s) ≡ false) where
    pub unsound-length : not (eqb (length ws) (table_length d s)) ≡ true → false ≡ sound d v s ws
    unfolding sound
    unsound-length e = rw (not-false (shape_ok max_dimension d v s) ok, not-true (eqb (length ws) (table_length d s)) e) refl

    module _ (len : not (eqb (length ws) (table_length d s)) ≡ false) where
      pub unsound-refused : (r : Refusal) → number_of r ≡ first_refusal solid_rules (record_list (record_size d) d v s ws) → false ≡ sound d v s ws
      unfolding sound own_table acceptable
      unsound-refused r e =
          let some = (number_of_range r).0 in
          let n = ne_eqb (first_refusal solid_rules (record_list (record_size d) d v s ws)) 0 (λ z. omega (arith, e)) in
          rw (not-false (shape_ok max_dimension d v s) ok, not-false (eqb (length ws) (table_length d s)) len, n) refl

      pub sound-same : (rows : List ℕ) (signs : List Sign) (made : ℕ → ℕ) (wings : List ℕ) (r : Bool) →
          0 ≡ first_refusal solid_rules (record_list (record_size d) d v s ws) → Taken (record_list (record_size d) d v s ws) rows signs made wings →
          r ≡ same_row ws (held_words d s rows signs made wings) → r ≡ sound d v s ws
      unfolding sound own_table acceptable
      sound-same rows signs made wings r none t e =
          let l = limits_are max_dimension d v s ok in
          let n = eq-eqb (first_refusal solid_rules (record_list (record_size d) d v s ws)) 0 (sym none) in
          rw (not-false (shape_ok max_dimension d v s) ok, not-false (eqb (length ws) (table_length d s)) len, n)
          (e ∙ ap (same_row ws) (sym (taken_table (record_list (record_size d) d v s ws) rows signs made wings l.dimension l.cells t)))
