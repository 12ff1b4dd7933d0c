-- The key is alone, or is met. Assumes nothing.
use mathlib.Core.Path.{◌≡◌, refl, sym, ◌∙◌}
use Prim.Native.Nat.{suc, ◌*◌, ◌≤◌, ◌<◌}
use native.Mathlib.Omega.{arith}
use Rattle.records.specs.Layout.{empty}
use Rattle.soundness.specs.Inner.Pairing.{MeetsAt, wing_of}
use Rattle.soundness.proofs.Passing.{pass_alone, pass_met, pass_waits}
use Rattle.soundness.proofs.Places.{few_keys}
use Rattle.soundness.proofs.coded.pass.Goals as goal
use Rattle.soundness.proofs.coded.pass.Goals.{Start, Then-is_met}

few : (s : Start) → let a = s.args in a.s * suc a.d ≤ 32768
few s = let t = s.requires.0.table in few_keys _ _ t.dimension t.cells

-- an earlier key meets it
meeting : (c : Then-is_met) → (c.put-f.result < c.args.g) × MeetsAt c.args.d c.args.table.now c.put-f.result c.args.g
meeting c =
    (omega (arith, c.if-g-f.false), c.is_met.ensures c.if-is_met.true)

some-wait : (c : Then-is_met) → 1 ≤ c.args.n
some-wait c =
    let a = c.args in
    let m = meeting c in
    (pass_met a.d a.s a.table.now a.hash.now a.head.now a.next.now _ _ a.g a.n c.requires.0 c.requires.1
    c.put-f.ensures.long.1 (c.put-f.ensures.chains (λ l. absurd (omega (arith, l, m.0)))) c.put-f.result m.0 m.1).0

pub put-f-requires : goal.put-f-requires
put-f-requires c =
    let l = c.requires.1 in (
      c.requires.0.chains,
      omega (arith, l, few (goal.at.put-f-requires c).Start),
      omega (arith, l, c.requires.0.wide),
      omega (arith, l, c.requires.0.deep),
    )

pub bounds-known-g : goal.bounds-known-g
bounds-known-g c = omega (arith, c.requires.1, c.requires.2.room.known_room)

pub returns-then-known-g : goal.returns-then-known-g
returns-then-known-g c = λ z.
    let a = c.args in
    let e : wing_of a.d a.table.now a.g ≡ empty = sym (c.requires.2.told.wing_is a.g c.requires.1) ∙ c.if-known-g.true in
    pass_alone a.d a.s a.table.now a.hash.now a.head.now a.next.now _ _ a.g a.n c.requires.0 c.requires.1
    c.put-f.ensures.long.1 (c.put-f.ensures.chains (λ l. c.if-f-eq65535.true)) (c.put-f.ensures.none c.if-f-eq65535.true) e

pub overflow_add-result : goal.overflow_add-result
overflow_add-result c = omega (arith, c.requires.0.low, c.requires.1, few (goal.at.overflow_add-result c).Start)

pub returns-then-f-eq65535 : goal.returns-then-f-eq65535
returns-then-f-eq65535 c = λ z.
    let a = c.args in
    pass_waits a.d a.s a.table.now a.hash.now a.head.now a.next.now _ _ a.g a.n c.requires.0 c.requires.1
    c.put-f.ensures.long.1 (c.put-f.ensures.chains (λ l. c.if-f-eq65535.true)) (c.put-f.ensures.none c.if-f-eq65535.true)

pub returns-then-g-f : goal.returns-then-g-f
returns-then-g-f c = λ z. absurd (z refl)

pub is_met-requires : goal.is_met-requires
is_met-requires c =
    (c.requires.0.table, c.requires.2, omega (arith, c.if-g-f.false, c.requires.1), c.requires.1)

pub overflow_sub-result : goal.overflow_sub-result
overflow_sub-result c = omega (arith, some-wait c)

pub returns-then-is_met : goal.returns-then-is_met
returns-then-is_met c = λ z.
    let a = c.args in
    let m = meeting c in
    (pass_met a.d a.s a.table.now a.hash.now a.head.now a.next.now _ _ a.g a.n c.requires.0 c.requires.1
    c.put-f.ensures.long.1 (c.put-f.ensures.chains (λ l. absurd (omega (arith, l, m.0)))) c.put-f.result m.0 m.1).1

pub returns : goal.returns
returns c = λ z. absurd (z refl)
