-- A record is compared in its parts, but for its material. Assumes nothing.
use mathlib.Core.Path.{refl, sym, ap, ◌∙◌}
use Prim.Native.Nat.{ℕ, ◌+◌, ◌*◌, ◌≤◌}
use native.Mathlib.Nat.{mul-le-mul_right}
use native.Mathlib.Omega.{arith}
use borrow.Author.Tests.{eq-eqb, ne_eqb}
use Rattle.simplex.specs.Cell.{same_row}
use Rattle.tables.specs.Inner.Held.{run}
use Rattle.tables.proofs.Filling.{record_same}
use Rattle.tables.proofs.table.same_record.Goals as goal
use Rattle.tables.proofs.table.same_record.Goals.{Start}

-- the wings of cell p are among those held
held : (c : Start) → let a = c.args in a.p * (a.d + 1) + (a.d + 1) ≤ 32768
held c = let a = c.args in omega (arith, mul-le-mul_right {m = a.p} {n = 4095} (a.d + 1) (omega arith))

pub overflow_add-k : goal.overflow_add-k
overflow_add-k c = omega arith

pub offset_bounds-table-at : goal.offset_bounds-table-at
offset_bounds-table-at c = omega arith

pub bounds-table-at : goal.bounds-table-at
bounds-table-at c = omega arith

pub bounds-signs-p : goal.bounds-signs-p
bounds-signs-p c = omega arith

pub returns-then-table-at : goal.returns-then-table-at
returns-then-table-at c =
    sym (record_same c.args.d _ _ _ _ _ _ c.args.table.now refl
    ∙ rw (ne_eqb _ _ (λ e. c.if-table-at.true (e ∙ sym c.sign_word.ensures))) refl)

pub overflow_mul-p : goal.overflow_mul-p
overflow_mul-p c = omega arith

pub overflow_add-at : goal.overflow_add-at
overflow_add-at c = omega arith

pub overflow_mul-p-then-same_run : goal.overflow_mul-p-then-same_run
overflow_mul-p-then-same_run c = omega (arith, held (goal.at.overflow_mul-p-then-same_run c).Start)

pub overflow_add-at-then-same_run : goal.overflow_add-at-then-same_run
overflow_add-at-then-same_run c = omega arith

pub same_run-requires-then-same_run : goal.same_run-requires-then-same_run
same_run-requires-then-same_run c = (omega (arith, held (goal.at.same_run-requires-then-same_run c).Start), omega arith)

pub returns-then-same_run : goal.returns-then-same_run
returns-then-same_run c =
    let a = c.args in
    c.same_run-then-same_run.ensures
    ∙ ap (λ (w : ℕ). same_row (run (a.d + 1) (a.at + w) a.table.now) (run (a.d + 1) (a.p * (a.d + 1)) a.wings.now))
    c.first_wing.ensures
    ∙ sym (record_same a.d _ _ _ _ _ _ a.table.now refl ∙ rw (
      eq-eqb _ _ (c.if-table-at.false ∙ c.sign_word.ensures),
      sym c.same_run.ensures ∙ c.if-same_run.true,
    ) refl)

pub returns : goal.returns
returns c =
    sym (record_same c.args.d _ _ _ _ _ _ c.args.table.now refl ∙ rw (
      eq-eqb _ _ (c.if-table-at.false ∙ c.sign_word.ensures),
      sym c.same_run.ensures ∙ c.if-same_run.false,
    ) refl)
