-- The goals that the search leaves. Assumes nothing.
use mathlib.Core.Path.{sym, subst, ◌∙◌}
use Prim.Native.Nat.{ℕ, ◌<◌}
use native.Mathlib.Nat.{not-suc-le-zero}
use native.Mathlib.Omega.{arith}
use borrow.Author.Count.{below_more}
use Rattle.matching.proofs.KeptRows.{kept-few, stands_below, other_length, vertex-same, vertex_differs, vertices-same}
use Rattle.matching.proofs.same_key.Goals as goal
use Rattle.matching.proofs.same_key.Goals.{After-stands, After-stands-in-loop-j}

-- where it stands is below 8
stood : (c : After-stands) → c.stands.result < 8
stood c =
    let l = c.loop-j in
    subst (λ (x : ℕ). x < 8) (sym c.stands.ensures) (stands_below _ _ l.j c.requires.1 (omega (arith, l.invariant.0)))

stood-2 : (c : After-stands-in-loop-j) → c.stands-in-loop-j.result < 8
stood-2 c =
    let l = c.loop-j in
    subst (λ (x : ℕ). x < 8) (sym c.stands-in-loop-j.ensures) (stands_below _ _ l.j c.requires.1 (omega (arith, l.invariant.1)))

pub returns-then-kept-m : goal.returns-then-kept-m
returns-then-kept-m c =
    sym (other_length _ _ _ _ _ _ c.requires.0 c.requires.1 c.requires.2 c.requires.3 _ _ c.kept-m.ensures c.kept.ensures
    c.if-kept-m.true)

pub loop-j-init : goal.loop-j-init
loop-j-init c =
    (c.kept-m.ensures, sym c.if-kept-m.false ∙ c.kept.ensures, omega arith, (λ i l. absurd (not-suc-le-zero l)))

pub returns-then-m-j : goal.returns-then-m-j
returns-then-m-j c =
    let l = c.loop-j in
    sym (vertices-same _ _ _ _ _ _ c.requires.0 c.requires.1 c.requires.2 c.requires.3 _ l.invariant.0 l.invariant.1
    (λ i h. l.invariant.3 i (omega (arith, c.if-m-j.true))))

pub overflow_add-p : goal.overflow_add-p
overflow_add-p c = omega (arith, stood c)

pub offset_bounds-rows-p : goal.offset_bounds-rows-p
offset_bounds-rows-p c = omega (arith, stood c)

pub bounds-rows-p : goal.bounds-rows-p
bounds-rows-p c = omega (arith, stood (goal.at.bounds-rows-p c).After-stands)

pub overflow_add-q : goal.overflow_add-q
overflow_add-q c = omega (arith, stood-2 c)

pub offset_bounds-rows-q : goal.offset_bounds-rows-q
offset_bounds-rows-q c = omega (arith, stood-2 c)

pub bounds-rows-q : goal.bounds-rows-q
bounds-rows-q c = omega (arith, stood-2 c)

pub returns-then-rows-p : goal.returns-then-rows-p
returns-then-rows-p c =
    let l = c.loop-j in
    sym (vertex_differs _ _ _ _ _ _ c.requires.0 c.requires.1 c.requires.2 c.requires.3 _ l.invariant.0 l.invariant.1 _ _ _ (omega arith)
    c.stands.ensures c.stands-in-loop-j.ensures c.if-rows-p.true)

pub loop-j-preserved : goal.loop-j-preserved
loop-j-preserved c =
    let l = c.loop-j in (
      l.invariant.0,
      l.invariant.1,
      omega arith,
      below_more _ _ l.invariant.3 (vertex-same _ _ _ _ _ _ c.requires.0 c.requires.1 c.requires.2 c.requires.3 _ l.invariant.0 l.invariant.1 _ _ _
          (omega arith) c.stands.ensures c.stands-in-loop-j.ensures c.if-rows-p.false),
    )

pub returns : goal.returns
returns c =
    let l = c.loop-j in
    sym (vertices-same _ _ _ _ _ _ c.requires.0 c.requires.1 c.requires.2 c.requires.3 _ l.invariant.0 l.invariant.1
    (λ i h. l.invariant.3 i (omega (arith, kept-few c.args.k c.args.a c.requires.1, l.invariant.0))))
