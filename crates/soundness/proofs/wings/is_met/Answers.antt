-- The dimension that the compiler knows is the table's. Assumes nothing.
use mathlib.Core.Path.{◌≡◌, subst}
use Prim.Native.Nat.{ℕ, suc, ◌*◌, ◌≤◌, ◌<◌}
use Rattle.records.specs.Inner.Inside.{Table}
use Rattle.soundness.proofs.wings.is_met.Goals as goal
use Rattle.soundness.proofs.wings.is_met.Goals.{Start}

abbrev Asked : Start → ℕ → Type 0
Asked s d = let a = s.args in Table d a.s a.table.now × (a.f < a.s * suc d) × (a.p < a.s) × (a.a ≤ d)

there : (s : Start) (k : ℕ) → s.args.d ≡ k → Asked s k
there s k e = subst (Asked s) e s.requires

pub meets_key-requires : goal.meets_key-requires
meets_key-requires c = there (goal.at.meets_key-requires c).Start 1 c.if-d-eq1.true

pub returns-then-d-eq1 : goal.returns-then-d-eq1
returns-then-d-eq1 c = rw c.if-d-eq1.true c.meets_key.ensures

pub meets_key-requires-then-d-eq2 : goal.meets_key-requires-then-d-eq2
meets_key-requires-then-d-eq2 c = there (goal.at.meets_key-requires-then-d-eq2 c).Start 2 c.if-d-eq2.true

pub returns-then-d-eq2 : goal.returns-then-d-eq2
returns-then-d-eq2 c = rw c.if-d-eq2.true c.meets_key-then-d-eq2.ensures

pub meets_key-requires-then-d-eq3 : goal.meets_key-requires-then-d-eq3
meets_key-requires-then-d-eq3 c = there (goal.at.meets_key-requires-then-d-eq3 c).Start 3 c.if-d-eq3.true

pub returns-then-d-eq3 : goal.returns-then-d-eq3
returns-then-d-eq3 c = rw c.if-d-eq3.true c.meets_key-then-d-eq3.ensures

pub meets_key-requires-then-d-eq4 : goal.meets_key-requires-then-d-eq4
meets_key-requires-then-d-eq4 c = there (goal.at.meets_key-requires-then-d-eq4 c).Start 4 c.if-d-eq4.true

pub returns-then-d-eq4 : goal.returns-then-d-eq4
returns-then-d-eq4 c = rw c.if-d-eq4.true c.meets_key-then-d-eq4.ensures

pub meets_key-requires-then-d-eq5 : goal.meets_key-requires-then-d-eq5
meets_key-requires-then-d-eq5 c = there (goal.at.meets_key-requires-then-d-eq5 c).Start 5 c.if-d-eq5.true

pub returns-then-d-eq5 : goal.returns-then-d-eq5
returns-then-d-eq5 c = rw c.if-d-eq5.true c.meets_key-then-d-eq5.ensures

pub meets_key-requires-then-d-eq6 : goal.meets_key-requires-then-d-eq6
meets_key-requires-then-d-eq6 c = there (goal.at.meets_key-requires-then-d-eq6 c).Start 6 c.if-d-eq6.true

pub returns-then-d-eq6 : goal.returns-then-d-eq6
returns-then-d-eq6 c = rw c.if-d-eq6.true c.meets_key-then-d-eq6.ensures

pub meets_key-requires-then-d-eq7 : goal.meets_key-requires-then-d-eq7
meets_key-requires-then-d-eq7 c = there (goal.at.meets_key-requires-then-d-eq7 c).Start 7 c.if-d-eq7.true

pub returns-then-d-eq7 : goal.returns-then-d-eq7
returns-then-d-eq7 c = rw c.if-d-eq7.true c.meets_key-then-d-eq7.ensures
