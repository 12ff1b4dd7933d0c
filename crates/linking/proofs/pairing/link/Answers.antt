-- One key is put into its bucket, and is alone there or is paired. Assumes nothing.
use mathlib.Core.Path.{◌≡◌, ap, ◌∙◌}
use mathlib.Core.Bool.{false≢true}
use Prim.Native.Nat.{suc, ◌*◌, ◌/◌, ◌%◌, ◌≤◌, ◌<◌}
use native.Mathlib.Omega.{arith}
use Rattle.matching.proofs.Quotients.{cell_of_key, place_of_key}
use Rattle.soundness.proofs.Places.{few_keys, key_inside}
use Rattle.linking.proofs.Linkables.{alone, paired}
use Rattle.linking.proofs.pairing.link.Goals as goal
use Rattle.linking.proofs.pairing.link.Goals.{Start}

-- the key is one of all
inside : (s : Start) → let a = s.args in (a.g < a.s * suc a.d) × (a.s * suc a.d ≤ 32768)
inside s =
    let a = s.args in
    let t = s.requires.0.table in
    (rw s.requires.3 (key_inside a.d a.s a.p a.a s.requires.1 s.requires.2), few_keys a.d a.s t.dimension t.cells)

pub put-f-requires : goal.put-f-requires
put-f-requires c =
    let i = inside (goal.at.put-f-requires c).Start in
    (c.requires.0.chains, omega (arith, i), omega (arith, i, c.requires.0.wide), omega (arith, i, c.requires.0.deep))

pub returns-then-f-eq65535 : goal.returns-then-f-eq65535
returns-then-f-eq65535 c = λ z.
    let a = c.args in
    alone a.d a.s a.table.now a.hash.now a.head.now a.next.now _ _ a.g c.requires.0 (inside (goal.at.returns-then-f-eq65535 c).Start).0
    c.put-f.ensures.long.1 (c.put-f.ensures.chains (λ l. c.if-f-eq65535.true)) (c.put-f.ensures.none c.if-f-eq65535.true)

pub returns-then-g-f : goal.returns-then-g-f
returns-then-g-f c = λ z. absurd (false≢true z)

pub pair-requires : goal.pair-requires
pair-requires c =
    (c.requires.0.table, omega (arith, (inside (goal.at.pair-requires c).Start).0), c.requires.1, c.requires.2)

pub returns : goal.returns
returns c = λ z.
    let a = c.args in
    let now = c.pair.ensures z in
    let cell : a.g / suc a.d ≡ a.p = ap (λ i. i / suc a.d) c.requires.3 ∙ cell_of_key a.p a.a (suc a.d) (omega (arith, c.requires.2)) in
    let place : a.g % suc a.d ≡ a.a =
    ap (λ i. i % suc a.d) c.requires.3 ∙ place_of_key a.p a.a (suc a.d) (omega (arith, c.requires.2)) in
    paired a.d a.s a.table.now a.hash.now a.head.now a.next.now _ _ a.g c.requires.0 (inside (goal.at.returns c).Start).0
    c.put-f.ensures.long.1 (c.put-f.ensures.chains (λ l. absurd (omega (arith, l, c.if-g-f.false)))) _ c.put-f.result
    (omega (arith, c.if-g-f.false)) (rw cell (rw place now.0)) (rw cell (rw place now.1))
