-- The key is alone, or is met. Assumes nothing.
use mathlib.Core.Path.{◌≡◌, refl, sym, ap, ◌∙◌}
use Prim.Native.Nat.{suc, ◌*◌, ◌/◌, ◌%◌, ◌≤◌, ◌<◌}
use native.Mathlib.Omega.{arith}
use Rattle.matching.proofs.Quotients.{cell_of_key, place_of_key}
use Rattle.records.specs.Layout.{empty}
use Rattle.soundness.specs.Inner.Pairing.{MeetsAt, wing_of}
use Rattle.soundness.proofs.Passing.{as_alike, pass_alone, pass_met, pass_waits, with_hashes}
use Rattle.soundness.proofs.Places.{few_keys, key_inside}
use Rattle.soundness.proofs.wings.pass.Goals as goal
use Rattle.soundness.proofs.wings.pass.Goals.{Start, Then-is_met}

-- the key is one of all
inside : (s : Start) → let a = s.args in (a.g < a.s * suc a.d) × (a.s * suc a.d ≤ 32768)
inside s =
    let a = s.args in
    let t = s.requires.0.table in
    (rw s.requires.3 (key_inside a.d a.s a.p a.a s.requires.1 s.requires.2), few_keys a.d a.s t.dimension t.cells)

-- its cell and its position
cell : (s : Start) → let a = s.args in a.g / suc a.d ≡ a.p
cell s = let a = s.args in ap (λ i. i / suc a.d) s.requires.3 ∙ cell_of_key a.p a.a (suc a.d) (omega (arith, s.requires.2))

place : (s : Start) → let a = s.args in a.g % suc a.d ≡ a.a
place s = let a = s.args in ap (λ i. i % suc a.d) s.requires.3 ∙ place_of_key a.p a.a (suc a.d) (omega (arith, s.requires.2))

-- an earlier key meets it
meeting : (c : Then-is_met) → (c.put-f.result < c.args.g) × MeetsAt c.args.d c.args.table.now c.put-f.result c.args.g
meeting c = (
  omega (arith, c.if-g-f.false),
  rw (cell (goal.at.Then-is_met c).Start) (rw (place (goal.at.Then-is_met c).Start) (c.is_met.ensures c.if-is_met.true)),
)

some-wait : (c : Then-is_met) → 1 ≤ c.args.n
some-wait c =
    let a = c.args in
    let m = meeting c in
    (pass_met a.d a.s a.table.now a.hash.now a.head.now a.next.now _ _ a.g a.n (as_alike _ _ _ _ _ _ _ _ c.requires.0)
    (inside (goal.at.Then-is_met c).Start).0
    c.put-f.ensures.long.1 (c.put-f.ensures.chains (λ l. absurd (omega (arith, l, m.0)))) c.put-f.result m.0 m.1).0

pub put-f-requires : goal.put-f-requires
put-f-requires c =
    let i = inside (goal.at.put-f-requires c).Start in
    (c.requires.0.chains, omega (arith, i), omega (arith, i, c.requires.0.wide), omega (arith, i, c.requires.0.deep))

pub returns-then-wing : goal.returns-then-wing
returns-then-wing c = λ z.
    let a = c.args in
    let e : wing_of a.d a.table.now a.g ≡ empty =
    rw (cell (goal.at.returns-then-wing c).Start) (rw (place (goal.at.returns-then-wing c).Start) (sym c.wing.ensures ∙ c.if-wing.true)) in
    with_hashes _ _ _ _ _ _ _ _ c.requires.0.hashed
    (pass_alone a.d a.s a.table.now a.hash.now a.head.now a.next.now _ _ a.g a.n (as_alike _ _ _ _ _ _ _ _ c.requires.0)
    (inside (goal.at.returns-then-wing c).Start).0
    c.put-f.ensures.long.1 (c.put-f.ensures.chains (λ l. c.if-f-eq65535.true)) (c.put-f.ensures.none c.if-f-eq65535.true) e)

pub overflow_add-result : goal.overflow_add-result
overflow_add-result c = omega (arith, c.requires.0.low, inside (goal.at.overflow_add-result c).Start)

pub returns-then-f-eq65535 : goal.returns-then-f-eq65535
returns-then-f-eq65535 c = λ z.
    let a = c.args in
    with_hashes _ _ _ _ _ _ _ _ c.requires.0.hashed
    (pass_waits a.d a.s a.table.now a.hash.now a.head.now a.next.now _ _ a.g a.n (as_alike _ _ _ _ _ _ _ _ c.requires.0)
    (inside (goal.at.returns-then-f-eq65535 c).Start).0
    c.put-f.ensures.long.1 (c.put-f.ensures.chains (λ l. c.if-f-eq65535.true)) (c.put-f.ensures.none c.if-f-eq65535.true))

pub returns-then-g-f : goal.returns-then-g-f
returns-then-g-f c = λ z. absurd (z refl)

pub is_met-requires : goal.is_met-requires
is_met-requires c =
    (c.requires.0.table, omega (arith, (inside (goal.at.is_met-requires c).Start).0), c.requires.1, c.requires.2)

pub overflow_sub-result : goal.overflow_sub-result
overflow_sub-result c = omega (arith, some-wait c)

pub returns-then-is_met : goal.returns-then-is_met
returns-then-is_met c = λ z.
    let a = c.args in
    let m = meeting c in
    with_hashes _ _ _ _ _ _ _ _ c.requires.0.hashed
    (pass_met a.d a.s a.table.now a.hash.now a.head.now a.next.now _ _ a.g a.n (as_alike _ _ _ _ _ _ _ _ c.requires.0)
    (inside (goal.at.returns-then-is_met c).Start).0
    c.put-f.ensures.long.1 (c.put-f.ensures.chains (λ l. absurd (omega (arith, l, m.0)))) c.put-f.result m.0 m.1).1

pub returns : goal.returns
returns c = λ z. absurd (z refl)
