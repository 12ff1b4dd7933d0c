-- The dimension that the compiler knows is the table's. Assumes nothing.
use mathlib.Core.Path.{◌≡◌, subst}
use Prim.Native.Nat.{ℕ, ◌≤◌}
use Rattle.records.specs.Inner.Inside.{Table}
use Rattle.boundary.proofs.walk.next_cell.Goals as goal
use Rattle.boundary.proofs.walk.next_cell.Goals.{Start}

abbrev Asked : Start → ℕ → Type 0
Asked s d = let a = s.args in Table d a.s a.table.now × (a.p ≤ a.s)

there : (s : Start) (k : ℕ) → s.args.d ≡ k → Asked s k
there s k e = subst (Asked s) e s.requires

pub cell_from-requires : goal.cell_from-requires
cell_from-requires c = there (goal.at.cell_from-requires c).Start 1 c.if-d-eq1.true

pub returns-then-d-eq1 : goal.returns-then-d-eq1
returns-then-d-eq1 c = rw c.if-d-eq1.true c.cell_from.ensures

pub cell_from-requires-then-d-eq2 : goal.cell_from-requires-then-d-eq2
cell_from-requires-then-d-eq2 c = there (goal.at.cell_from-requires-then-d-eq2 c).Start 2 c.if-d-eq2.true

pub returns-then-d-eq2 : goal.returns-then-d-eq2
returns-then-d-eq2 c = rw c.if-d-eq2.true c.cell_from-then-d-eq2.ensures

pub cell_from-requires-then-d-eq3 : goal.cell_from-requires-then-d-eq3
cell_from-requires-then-d-eq3 c = there (goal.at.cell_from-requires-then-d-eq3 c).Start 3 c.if-d-eq3.true

pub returns-then-d-eq3 : goal.returns-then-d-eq3
returns-then-d-eq3 c = rw c.if-d-eq3.true c.cell_from-then-d-eq3.ensures

pub cell_from-requires-then-d-eq4 : goal.cell_from-requires-then-d-eq4
cell_from-requires-then-d-eq4 c = there (goal.at.cell_from-requires-then-d-eq4 c).Start 4 c.if-d-eq4.true

pub returns-then-d-eq4 : goal.returns-then-d-eq4
returns-then-d-eq4 c = rw c.if-d-eq4.true c.cell_from-then-d-eq4.ensures

pub cell_from-requires-then-d-eq5 : goal.cell_from-requires-then-d-eq5
cell_from-requires-then-d-eq5 c = there (goal.at.cell_from-requires-then-d-eq5 c).Start 5 c.if-d-eq5.true

pub returns-then-d-eq5 : goal.returns-then-d-eq5
returns-then-d-eq5 c = rw c.if-d-eq5.true c.cell_from-then-d-eq5.ensures

pub cell_from-requires-then-d-eq6 : goal.cell_from-requires-then-d-eq6
cell_from-requires-then-d-eq6 c = there (goal.at.cell_from-requires-then-d-eq6 c).Start 6 c.if-d-eq6.true

pub returns-then-d-eq6 : goal.returns-then-d-eq6
returns-then-d-eq6 c = rw c.if-d-eq6.true c.cell_from-then-d-eq6.ensures

pub cell_from-requires-then-d-eq7 : goal.cell_from-requires-then-d-eq7
cell_from-requires-then-d-eq7 c = there (goal.at.cell_from-requires-then-d-eq7 c).Start 7 c.if-d-eq7.true

pub returns-then-d-eq7 : goal.returns-then-d-eq7
returns-then-d-eq7 c = rw c.if-d-eq7.true c.cell_from-then-d-eq7.ensures
