-- Whether the number that stands at key g is that of a key. Assumes nothing.
use mathlib.Core.Path.{◌≡◌, refl, ap, ◌∙◌, subst}
use Prim.Native.Nat.{ℕ, ◌/◌, ◌%◌, ◌<◌}
use native.Mathlib.Nat.{div-lt_iff_lt-mul}
use native.Mathlib.Omega.{arith}
use Rattle.matching.proofs.Quotients.{cell_of_key, place_of_key}
use Rattle.tables.proofs.Seeing.{met_none, met_seen}
use Rattle.tables.proofs.adjacency.pair_at.Goals as goal
use Rattle.tables.proofs.adjacency.pair_at.Goals.{After-place_of-there, Start}

-- the place of key g
cell : (c : Start) → c.args.g / c.args.k ≡ c.args.p
cell c = ap (λ (x : ℕ). x / c.args.k) c.requires.a_lt_k.1 ∙ cell_of_key _ _ _ c.requires.a_lt_k.0

place : (c : Start) → c.args.g % c.args.k ≡ c.args.a
place c = ap (λ (x : ℕ). x % c.args.k) c.requires.a_lt_k.1 ∙ place_of_key _ _ _ c.requires.a_lt_k.0

small : (c : Start) → c.args.p < 4096
small c = subst (λ (x : ℕ). x < 4096) (cell c) ((div-lt_iff_lt-mul {y = 4096} c.requires.k_nonzero.0).1 (omega arith))

-- the cell of the other key
other : (c : After-place_of-there) → c.place_of-there.result.cell < 4096
other c =
    omega (arith, c.place_of-there.ensures.0, (div-lt_iff_lt-mul {x = c.from-f.result} {y = 4096} c.requires.k_nonzero.0).1 (omega arith))

pub place_of-there-requires : goal.place_of-there-requires
place_of-there-requires c =
    (omega arith, c.requires.k_nonzero.0, c.requires.k_nonzero.1, c.requires.k_nonzero.2)

pub overflow_cast-wings : goal.overflow_cast-wings
overflow_cast-wings c = omega (arith, other c)

pub overflow_cast-wings-then-f-n : goal.overflow_cast-wings-then-f-n
overflow_cast-wings-then-f-n c = omega (arith, small (goal.at.overflow_cast-wings-then-f-n c).Start)

pub meet-requires : goal.meet-requires
meet-requires c = (small (goal.at.meet-requires c).Start, other (goal.at.meet-requires c).After-place_of-there, omega arith)

pub returns-then-f-n : goal.returns-then-f-n
returns-then-f-n c =
    let a = c.args in
    let x = c.place_of-there in
    met_seen _ _ _ _ _ _ _ a.found.crowded a.found.repeated a.found.equal _ (omega arith) _ _ _
    _ (cell (goal.at.returns-then-f-n c).Start) (place (goal.at.returns-then-f-n c).Start) x.ensures.0 x.ensures.1 c.if-f-n.true
    _ _ _ _ refl c.meet.ensures.crowded c.meet.ensures.repeated c.meet.ensures.equal

pub returns : goal.returns
returns c =
    let a = c.args in
    met_none _ _ _ _ _ _ _ a.found.crowded a.found.repeated a.found.equal _ c.from-f.ensures c.if-f-n.false
