-- The dimension that the compiler knows is the table's. Assumes nothing.
use mathlib.Core.Path.{◌≡◌, subst}
use Prim.Native.Nat.{ℕ}
use Rattle.records.specs.Inner.Inside.{Table}
use Rattle.boundary.proofs.counting.count_faces.Goals as goal
use Rattle.boundary.proofs.counting.count_faces.Goals.{Start}

there : (s : Start) (k : ℕ) → s.args.d ≡ k → Table k s.args.s s.args.table.now
there s k e = subst (λ d. Table d s.args.s s.args.table.now) e s.requires

pub count_all-requires : goal.count_all-requires
count_all-requires c = there (goal.at.count_all-requires c).Start 1 c.if-d-eq1.true

pub returns-then-d-eq1 : goal.returns-then-d-eq1
returns-then-d-eq1 c = rw c.if-d-eq1.true c.count_all.ensures

pub count_all-requires-then-d-eq2 : goal.count_all-requires-then-d-eq2
count_all-requires-then-d-eq2 c = there (goal.at.count_all-requires-then-d-eq2 c).Start 2 c.if-d-eq2.true

pub returns-then-d-eq2 : goal.returns-then-d-eq2
returns-then-d-eq2 c = rw c.if-d-eq2.true c.count_all-then-d-eq2.ensures

pub count_all-requires-then-d-eq3 : goal.count_all-requires-then-d-eq3
count_all-requires-then-d-eq3 c = there (goal.at.count_all-requires-then-d-eq3 c).Start 3 c.if-d-eq3.true

pub returns-then-d-eq3 : goal.returns-then-d-eq3
returns-then-d-eq3 c = rw c.if-d-eq3.true c.count_all-then-d-eq3.ensures

pub count_all-requires-then-d-eq4 : goal.count_all-requires-then-d-eq4
count_all-requires-then-d-eq4 c = there (goal.at.count_all-requires-then-d-eq4 c).Start 4 c.if-d-eq4.true

pub returns-then-d-eq4 : goal.returns-then-d-eq4
returns-then-d-eq4 c = rw c.if-d-eq4.true c.count_all-then-d-eq4.ensures

pub count_all-requires-then-d-eq5 : goal.count_all-requires-then-d-eq5
count_all-requires-then-d-eq5 c = there (goal.at.count_all-requires-then-d-eq5 c).Start 5 c.if-d-eq5.true

pub returns-then-d-eq5 : goal.returns-then-d-eq5
returns-then-d-eq5 c = rw c.if-d-eq5.true c.count_all-then-d-eq5.ensures

pub count_all-requires-then-d-eq6 : goal.count_all-requires-then-d-eq6
count_all-requires-then-d-eq6 c = there (goal.at.count_all-requires-then-d-eq6 c).Start 6 c.if-d-eq6.true

pub returns-then-d-eq6 : goal.returns-then-d-eq6
returns-then-d-eq6 c = rw c.if-d-eq6.true c.count_all-then-d-eq6.ensures

pub count_all-requires-then-d-eq7 : goal.count_all-requires-then-d-eq7
count_all-requires-then-d-eq7 c = there (goal.at.count_all-requires-then-d-eq7 c).Start 7 c.if-d-eq7.true

pub returns-then-d-eq7 : goal.returns-then-d-eq7
returns-then-d-eq7 c = rw c.if-d-eq7.true c.count_all-then-d-eq7.ensures
