-- The dimension that the compiler knows is the table's. Assumes nothing.
use mathlib.Core.Path.{◌≡◌, subst}
use Prim.Native.Nat.{ℕ, suc, ◌*◌, ◌≤◌}
use native.Mathlib.Omega.{arith}
use lib.ListN.{length}
use Rattle.records.specs.Inner.Inside.{Table}
use Rattle.soundness.proofs.hashing.hashes.Goals as goal
use Rattle.soundness.proofs.hashing.hashes.Goals.{Start}

abbrev Asked : Start → ℕ → Type 0
Asked s d = let a = s.args in (1 ≤ d) × Table d a.s a.table.now × (a.s * suc d ≤ length a.hash.now)

there : (s : Start) (k : ℕ) → s.args.d ≡ k → let a = s.args in Table k a.s a.table.now × (a.s * suc k ≤ length a.hash.now)
there s k e = let r = subst (Asked s) e s.requires in (r.1, r.2)

further : (s : Start) (k : ℕ) → 2 ≤ k → s.args.d ≡ k →
    let a = s.args in (2 ≤ k) × Table k a.s a.table.now × (a.s * suc k ≤ length a.hash.now)
further s k two e = let r = there s k e in (two, r.0, r.1)

pub hash_segments-requires : goal.hash_segments-requires
hash_segments-requires c = there (goal.at.hash_segments-requires c).Start 1 c.if-d-eq1.true

pub returns-then-d-eq1 : goal.returns-then-d-eq1
returns-then-d-eq1 c = rw c.if-d-eq1.true c.hash_segments.ensures

pub hash_all-requires : goal.hash_all-requires
hash_all-requires c = further (goal.at.hash_all-requires c).Start 2 (omega arith) c.if-d-eq2.true

pub returns-then-d-eq2 : goal.returns-then-d-eq2
returns-then-d-eq2 c = rw c.if-d-eq2.true c.hash_all.ensures

pub hash_all-requires-then-d-eq3 : goal.hash_all-requires-then-d-eq3
hash_all-requires-then-d-eq3 c = further (goal.at.hash_all-requires-then-d-eq3 c).Start 3 (omega arith) c.if-d-eq3.true

pub returns-then-d-eq3 : goal.returns-then-d-eq3
returns-then-d-eq3 c = rw c.if-d-eq3.true c.hash_all-then-d-eq3.ensures

pub hash_all-requires-then-d-eq4 : goal.hash_all-requires-then-d-eq4
hash_all-requires-then-d-eq4 c = further (goal.at.hash_all-requires-then-d-eq4 c).Start 4 (omega arith) c.if-d-eq4.true

pub returns-then-d-eq4 : goal.returns-then-d-eq4
returns-then-d-eq4 c = rw c.if-d-eq4.true c.hash_all-then-d-eq4.ensures

pub hash_all-requires-then-d-eq5 : goal.hash_all-requires-then-d-eq5
hash_all-requires-then-d-eq5 c = further (goal.at.hash_all-requires-then-d-eq5 c).Start 5 (omega arith) c.if-d-eq5.true

pub returns-then-d-eq5 : goal.returns-then-d-eq5
returns-then-d-eq5 c = rw c.if-d-eq5.true c.hash_all-then-d-eq5.ensures

pub hash_all-requires-then-d-eq6 : goal.hash_all-requires-then-d-eq6
hash_all-requires-then-d-eq6 c = further (goal.at.hash_all-requires-then-d-eq6 c).Start 6 (omega arith) c.if-d-eq6.true

pub returns-then-d-eq6 : goal.returns-then-d-eq6
returns-then-d-eq6 c = rw c.if-d-eq6.true c.hash_all-then-d-eq6.ensures

pub hash_all-requires-then-d-eq7 : goal.hash_all-requires-then-d-eq7
hash_all-requires-then-d-eq7 c = further (goal.at.hash_all-requires-then-d-eq7 c).Start 7 (omega arith) c.if-d-eq7.true

pub returns-then-d-eq7 : goal.returns-then-d-eq7
returns-then-d-eq7 c = rw c.if-d-eq7.true c.hash_all-then-d-eq7.ensures

pub hash_all-requires-2 : goal.hash_all-requires-2
hash_all-requires-2 c = (omega (arith, c.requires.0, c.if-d-eq1.false), c.requires.1, c.requires.2)
