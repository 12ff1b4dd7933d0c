-- The dimension that the compiler knows is the table's, and the base is that of its dimension. Assumes nothing.
use mathlib.Core.Path.{◌≡◌, refl, subst}
use Prim.Native.Nat.{ℕ, suc, ◌*◌, ◌^◌, ◌≤◌, ◌<◌}
use native.Mathlib.Omega.{arith}
use lib.Dec.{lit≤}
use Rattle.records.specs.Inner.Inside.{Table}
use Rattle.soundness.specs.Inner.Certified.{row_in}
use Rattle.soundness.specs.Inner.Coding.{base_of, Rooms, Under}
use Rattle.soundness.proofs.codes.codes.Goals as goal
use Rattle.soundness.proofs.codes.codes.Goals.{Else-d-eq6, Start}

-- what is asked in dimension k with base b
abbrev Asked : Start → ℕ → ℕ → Type 0
Asked s k b =
    let a = s.args in
    Table k a.s a.table.now × ((p : ℕ) → p < a.s → Under b (row_in k a.table.now p))
    × Rooms (a.s * suc k) a.hash.now a.code.now a.known.now

abbrev Arm : Start → ℕ → ℕ → Type 0
Arm s k b =
    let a = s.args in
    Table k a.s a.table.now × ((p : ℕ) → p < a.s → Under b (row_in k a.table.now p)) × (b ^ suc k ≤ 9223372036854775808) × (0 < b)
    × Rooms (a.s * suc k) a.hash.now a.code.now a.known.now

arm : (s : Start) (k b : ℕ) → s.args.d ≡ k → base_of k ≡ b → b ^ suc k ≤ 9223372036854775808 → 0 < b → Arm s k b
arm s k b e f most some =
    let r = subst (λ b. Asked s k b) f (subst (λ d. Asked s d (base_of d)) e (s.requires.1, s.requires.2, s.requires.3)) in
    (r.0, r.1, most, some, r.2)

-- none of the others
seven : (c : Else-d-eq6) → c.args.d ≡ 7
seven c =
    omega (
      arith,
      c.requires.0,
      c.requires.1.dimension,
      c.if-d-eq1.false,
      c.if-d-eq2.false,
      c.if-d-eq3.false,
      c.if-d-eq4.false,
      c.if-d-eq5.false,
      c.if-d-eq6.false,
    )

pub put_all-requires : goal.put_all-requires
put_all-requires c = arm (goal.at.put_all-requires c).Start 1 4096 c.if-d-eq1.true refl (lit≤ tt) (omega arith)

pub returns-then-d-eq1 : goal.returns-then-d-eq1
returns-then-d-eq1 c = rw c.if-d-eq1.true c.put_all.ensures

pub put_all-requires-then-d-eq2 : goal.put_all-requires-then-d-eq2
put_all-requires-then-d-eq2 c = arm (goal.at.put_all-requires-then-d-eq2 c).Start 2 4096 c.if-d-eq2.true refl (lit≤ tt) (omega arith)

pub returns-then-d-eq2 : goal.returns-then-d-eq2
returns-then-d-eq2 c = rw c.if-d-eq2.true c.put_all-then-d-eq2.ensures

pub put_all-requires-then-d-eq3 : goal.put_all-requires-then-d-eq3
put_all-requires-then-d-eq3 c = arm (goal.at.put_all-requires-then-d-eq3 c).Start 3 4096 c.if-d-eq3.true refl (lit≤ tt) (omega arith)

pub returns-then-d-eq3 : goal.returns-then-d-eq3
returns-then-d-eq3 c = rw c.if-d-eq3.true c.put_all-then-d-eq3.ensures

pub put_all-requires-then-d-eq4 : goal.put_all-requires-then-d-eq4
put_all-requires-then-d-eq4 c = arm (goal.at.put_all-requires-then-d-eq4 c).Start 4 4096 c.if-d-eq4.true refl (lit≤ tt) (omega arith)

pub returns-then-d-eq4 : goal.returns-then-d-eq4
returns-then-d-eq4 c = rw c.if-d-eq4.true c.put_all-then-d-eq4.ensures

pub put_all-requires-then-d-eq5 : goal.put_all-requires-then-d-eq5
put_all-requires-then-d-eq5 c = arm (goal.at.put_all-requires-then-d-eq5 c).Start 5 1024 c.if-d-eq5.true refl (lit≤ tt) (omega arith)

pub returns-then-d-eq5 : goal.returns-then-d-eq5
returns-then-d-eq5 c = rw c.if-d-eq5.true c.put_all-then-d-eq5.ensures

pub put_all-requires-then-d-eq6 : goal.put_all-requires-then-d-eq6
put_all-requires-then-d-eq6 c = arm (goal.at.put_all-requires-then-d-eq6 c).Start 6 512 c.if-d-eq6.true refl (lit≤ tt) (omega arith)

pub returns-then-d-eq6 : goal.returns-then-d-eq6
returns-then-d-eq6 c = rw c.if-d-eq6.true c.put_all-then-d-eq6.ensures

pub put_all-requires-2 : goal.put_all-requires-2
put_all-requires-2 c = arm (goal.at.put_all-requires-2 c).Start 7 128 (seven (goal.at.put_all-requires-2 c).Else-d-eq6) refl (lit≤ tt) (omega arith)

pub returns : goal.returns
returns c = rw (seven (goal.at.returns c).Else-d-eq6) c.put_all-2.ensures
