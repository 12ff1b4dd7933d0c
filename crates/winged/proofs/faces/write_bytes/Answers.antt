-- The dimension that the compiler knows is the table's. Assumes nothing.
use mathlib.Core.Path.{◌≡◌, subst}
use Prim.Native.Nat.{ℕ, ◌≤◌}
use lib.ListN.{length}
use Rattle.records.specs.Inner.Inside.{Table}
use Rattle.boundary.specs.Inner.Walk.{table_faces}
use Rattle.winged.specs.Inner.Sent.{faces_bytes}
use Rattle.winged.proofs.faces.write_bytes.Goals as goal
use Rattle.winged.proofs.faces.write_bytes.Goals.{Start}

abbrev Asked : Start → ℕ → Type 0
Asked s d =
    let a = s.args in
    Table d a.s a.table.now × (length (faces_bytes (table_faces d a.s a.table.now)) ≤ length a.out.now)

there : (s : Start) (k : ℕ) → s.args.d ≡ k → Asked s k
there s k e = subst (Asked s) e s.requires

pub write_all-requires : goal.write_all-requires
write_all-requires c = there (goal.at.write_all-requires c).Start 1 c.if-d-eq1.true

pub returns-then-d-eq1 : goal.returns-then-d-eq1
returns-then-d-eq1 c = rw c.if-d-eq1.true c.write_all.ensures

pub write_all-requires-then-d-eq2 : goal.write_all-requires-then-d-eq2
write_all-requires-then-d-eq2 c = there (goal.at.write_all-requires-then-d-eq2 c).Start 2 c.if-d-eq2.true

pub returns-then-d-eq2 : goal.returns-then-d-eq2
returns-then-d-eq2 c = rw c.if-d-eq2.true c.write_all-then-d-eq2.ensures

pub write_all-requires-then-d-eq3 : goal.write_all-requires-then-d-eq3
write_all-requires-then-d-eq3 c = there (goal.at.write_all-requires-then-d-eq3 c).Start 3 c.if-d-eq3.true

pub returns-then-d-eq3 : goal.returns-then-d-eq3
returns-then-d-eq3 c = rw c.if-d-eq3.true c.write_all-then-d-eq3.ensures

pub write_all-requires-then-d-eq4 : goal.write_all-requires-then-d-eq4
write_all-requires-then-d-eq4 c = there (goal.at.write_all-requires-then-d-eq4 c).Start 4 c.if-d-eq4.true

pub returns-then-d-eq4 : goal.returns-then-d-eq4
returns-then-d-eq4 c = rw c.if-d-eq4.true c.write_all-then-d-eq4.ensures

pub write_all-requires-then-d-eq5 : goal.write_all-requires-then-d-eq5
write_all-requires-then-d-eq5 c = there (goal.at.write_all-requires-then-d-eq5 c).Start 5 c.if-d-eq5.true

pub returns-then-d-eq5 : goal.returns-then-d-eq5
returns-then-d-eq5 c = rw c.if-d-eq5.true c.write_all-then-d-eq5.ensures

pub write_all-requires-then-d-eq6 : goal.write_all-requires-then-d-eq6
write_all-requires-then-d-eq6 c = there (goal.at.write_all-requires-then-d-eq6 c).Start 6 c.if-d-eq6.true

pub returns-then-d-eq6 : goal.returns-then-d-eq6
returns-then-d-eq6 c = rw c.if-d-eq6.true c.write_all-then-d-eq6.ensures

pub write_all-requires-then-d-eq7 : goal.write_all-requires-then-d-eq7
write_all-requires-then-d-eq7 c = there (goal.at.write_all-requires-then-d-eq7 c).Start 7 c.if-d-eq7.true

pub returns-then-d-eq7 : goal.returns-then-d-eq7
returns-then-d-eq7 c = rw c.if-d-eq7.true c.write_all-then-d-eq7.ensures
