-- The dimension that the compiler knows is the table's. Assumes nothing.
use mathlib.Core.Path.{◌≡◌, sym, subst}
use Prim.Native.Nat.{ℕ, ◌<◌}
use Rattle.records.specs.Inner.Inside.{Table}
use Rattle.soundness.specs.Inner.Certified.{Fine}
use Rattle.soundness.proofs.rows.all_fine.Goals as goal
use Rattle.soundness.proofs.rows.all_fine.Goals.{Start}

abbrev Whole : Start → ℕ → Type 0
Whole s d = (p : ℕ) → p < s.args.s → Fine d s.args.v s.args.table.now p

there : (s : Start) (k : ℕ) → s.args.d ≡ k → Table k s.args.s s.args.table.now
there s k e = subst (λ d. Table d s.args.s s.args.table.now) e s.requires

back : (s : Start) (k : ℕ) → s.args.d ≡ k → Whole s k → Whole s s.args.d
back s k e = subst (Whole s) (sym e)

pub every_fine-requires : goal.every_fine-requires
every_fine-requires c = there (goal.at.every_fine-requires c).Start 1 c.if-d-eq1.true

pub returns-then-d-eq1 : goal.returns-then-d-eq1
returns-then-d-eq1 c = λ e. back (goal.at.returns-then-d-eq1 c).Start 1 c.if-d-eq1.true (c.every_fine.ensures e)

pub every_fine-requires-then-d-eq2 : goal.every_fine-requires-then-d-eq2
every_fine-requires-then-d-eq2 c = there (goal.at.every_fine-requires-then-d-eq2 c).Start 2 c.if-d-eq2.true

pub returns-then-d-eq2 : goal.returns-then-d-eq2
returns-then-d-eq2 c = λ e. back (goal.at.returns-then-d-eq2 c).Start 2 c.if-d-eq2.true (c.every_fine-then-d-eq2.ensures e)

pub every_fine-requires-then-d-eq3 : goal.every_fine-requires-then-d-eq3
every_fine-requires-then-d-eq3 c = there (goal.at.every_fine-requires-then-d-eq3 c).Start 3 c.if-d-eq3.true

pub returns-then-d-eq3 : goal.returns-then-d-eq3
returns-then-d-eq3 c = λ e. back (goal.at.returns-then-d-eq3 c).Start 3 c.if-d-eq3.true (c.every_fine-then-d-eq3.ensures e)

pub every_fine-requires-then-d-eq4 : goal.every_fine-requires-then-d-eq4
every_fine-requires-then-d-eq4 c = there (goal.at.every_fine-requires-then-d-eq4 c).Start 4 c.if-d-eq4.true

pub returns-then-d-eq4 : goal.returns-then-d-eq4
returns-then-d-eq4 c = λ e. back (goal.at.returns-then-d-eq4 c).Start 4 c.if-d-eq4.true (c.every_fine-then-d-eq4.ensures e)

pub every_fine-requires-then-d-eq5 : goal.every_fine-requires-then-d-eq5
every_fine-requires-then-d-eq5 c = there (goal.at.every_fine-requires-then-d-eq5 c).Start 5 c.if-d-eq5.true

pub returns-then-d-eq5 : goal.returns-then-d-eq5
returns-then-d-eq5 c = λ e. back (goal.at.returns-then-d-eq5 c).Start 5 c.if-d-eq5.true (c.every_fine-then-d-eq5.ensures e)

pub every_fine-requires-then-d-eq6 : goal.every_fine-requires-then-d-eq6
every_fine-requires-then-d-eq6 c = there (goal.at.every_fine-requires-then-d-eq6 c).Start 6 c.if-d-eq6.true

pub returns-then-d-eq6 : goal.returns-then-d-eq6
returns-then-d-eq6 c = λ e. back (goal.at.returns-then-d-eq6 c).Start 6 c.if-d-eq6.true (c.every_fine-then-d-eq6.ensures e)

pub every_fine-requires-then-d-eq7 : goal.every_fine-requires-then-d-eq7
every_fine-requires-then-d-eq7 c = there (goal.at.every_fine-requires-then-d-eq7 c).Start 7 c.if-d-eq7.true

pub returns-then-d-eq7 : goal.returns-then-d-eq7
returns-then-d-eq7 c = λ e. back (goal.at.returns-then-d-eq7 c).Start 7 c.if-d-eq7.true (c.every_fine-then-d-eq7.ensures e)
