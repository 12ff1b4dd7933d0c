-- The goals that the search leaves. Assumes nothing.
use mathlib.Core.Bool.{false}
use mathlib.Core.Path.{◌≡◌, refl, ap, ◌∙◌, subst}
use Prim.Native.Nat.{ℕ, ◌/◌, ◌<◌}
use native.Mathlib.Nat.{div-le_self, div-lt_iff_lt-mul}
use native.Mathlib.Omega.{arith}
use Rattle.tables.specs.Inner.Pairing.{Pairing}
use Rattle.matching.proofs.Quotients.{cell_of_key}
use Rattle.tables.proofs.Seeing.{pairing_long, pairing_more, pairing_none}
use Rattle.tables.proofs.adjacency.pair.Goals as goal
use Rattle.tables.proofs.adjacency.pair.Goals.{In-loop-g}

-- the cell of key g is one of 4096
small : (c : In-loop-g) → c.loop-g.here.cell < 4096
small c =
    let l = c.loop-g in
    subst (λ (x : ℕ). x < 4096) (ap (λ (x : ℕ). x / c.args.k) l.invariant.2 ∙ cell_of_key l.here.cell l.here.at _ l.invariant.1)
    ((div-lt_iff_lt-mul {y = 4096} c.requires.0).1 (omega arith))

pub overflow_add-part : goal.overflow_add-part
overflow_add-part c = omega (arith, div-le_self 1048576 c.args.k)

pub loop-g-init : goal.loop-g-init
loop-g-init c = (refl, omega arith, omega arith, pairing_none _ _ _ _ _ 0 _ false false false)

pub pair_at-found-requires : goal.pair_at-found-requires
pair_at-found-requires c =
    let l = c.loop-g in
    record {
      k_nonzero = (c.requires.0, c.requires.1, l.invariant.0, c.requires.2);
      a_lt_k = (
        l.invariant.1,
        l.invariant.2,
        c.loop-g-test.true,
        pairing_long _ _ _ _ _ _ _ _ l.found.crowded l.found.repeated l.found.equal l.invariant.3 ∙ c.requires.3,
      );
    }

pub next-here-requires : goal.next-here-requires
next-here-requires c =
    let l = c.loop-g in
    (l.invariant.1, c.requires.1, small (goal.at.next-here-requires c).In-loop-g)

pub loop-g-preserved : goal.loop-g-preserved
loop-g-preserved c =
    let l = c.loop-g in (
      l.invariant.0,
      c.next-here.ensures.0,
      omega (arith, c.next-here.ensures.1, l.invariant.2),
      pairing_more _ _ _ _ _ _ _ l.found.crowded l.found.repeated l.found.equal _ _ _ _ _ l.invariant.3 c.pair_at-found.ensures,
    )

pub returns : goal.returns
returns c =
    let l = c.loop-g in
    let a = c.args in
    let all : l.g ≡ a.n = omega arith in
    subst (λ (m : ℕ). Pairing a.k a.n a.rows.now a.signs.now a.prev.now m a.wings.now
    l.wings l.found.crowded l.found.repeated l.found.equal) all l.invariant.3
