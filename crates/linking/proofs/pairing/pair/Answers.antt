-- The dimension that the compiler knows is the table's. Assumes nothing.
use mathlib.Core.Path.{◌≡◌, subst}
use Prim.Native.Nat.{ℕ, suc, ◌*◌, ◌≤◌, ◌<◌}
use Rattle.records.specs.Inner.Inside.{Table}
use Rattle.linking.proofs.pairing.pair.Goals as goal
use Rattle.linking.proofs.pairing.pair.Goals.{Start}

abbrev Asked : Start → ℕ → Type 0
Asked s d = let a = s.args in Table d a.s a.table.now × (a.f < a.s * suc d) × (a.p < a.s) × (a.a ≤ d)

there : (s : Start) (k : ℕ) → s.args.d ≡ k → Asked s k
there s k e = subst (Asked s) e s.requires

pub meet-requires : goal.meet-requires
meet-requires c = there (goal.at.meet-requires c).Start 1 c.if-d-eq1.true

pub returns-then-d-eq1 : goal.returns-then-d-eq1
returns-then-d-eq1 c = rw c.if-d-eq1.true c.meet.ensures

pub meet-requires-then-d-eq2 : goal.meet-requires-then-d-eq2
meet-requires-then-d-eq2 c = there (goal.at.meet-requires-then-d-eq2 c).Start 2 c.if-d-eq2.true

pub returns-then-d-eq2 : goal.returns-then-d-eq2
returns-then-d-eq2 c = rw c.if-d-eq2.true c.meet-then-d-eq2.ensures

pub meet-requires-then-d-eq3 : goal.meet-requires-then-d-eq3
meet-requires-then-d-eq3 c = there (goal.at.meet-requires-then-d-eq3 c).Start 3 c.if-d-eq3.true

pub returns-then-d-eq3 : goal.returns-then-d-eq3
returns-then-d-eq3 c = rw c.if-d-eq3.true c.meet-then-d-eq3.ensures

pub meet-requires-then-d-eq4 : goal.meet-requires-then-d-eq4
meet-requires-then-d-eq4 c = there (goal.at.meet-requires-then-d-eq4 c).Start 4 c.if-d-eq4.true

pub returns-then-d-eq4 : goal.returns-then-d-eq4
returns-then-d-eq4 c = rw c.if-d-eq4.true c.meet-then-d-eq4.ensures

pub meet-requires-then-d-eq5 : goal.meet-requires-then-d-eq5
meet-requires-then-d-eq5 c = there (goal.at.meet-requires-then-d-eq5 c).Start 5 c.if-d-eq5.true

pub returns-then-d-eq5 : goal.returns-then-d-eq5
returns-then-d-eq5 c = rw c.if-d-eq5.true c.meet-then-d-eq5.ensures

pub meet-requires-then-d-eq6 : goal.meet-requires-then-d-eq6
meet-requires-then-d-eq6 c = there (goal.at.meet-requires-then-d-eq6 c).Start 6 c.if-d-eq6.true

pub returns-then-d-eq6 : goal.returns-then-d-eq6
returns-then-d-eq6 c = rw c.if-d-eq6.true c.meet-then-d-eq6.ensures

pub meet-requires-then-d-eq7 : goal.meet-requires-then-d-eq7
meet-requires-then-d-eq7 c = there (goal.at.meet-requires-then-d-eq7 c).Start 7 c.if-d-eq7.true

pub returns-then-d-eq7 : goal.returns-then-d-eq7
returns-then-d-eq7 c = rw c.if-d-eq7.true c.meet-then-d-eq7.ensures
