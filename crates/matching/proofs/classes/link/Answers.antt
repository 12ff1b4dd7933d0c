-- The goals that the search leaves. Assumes nothing.
use mathlib.Core.Path.{◌≡◌, refl, subst, ◌∙◌}
use mathlib.Core.List.{◌++◌}
use Prim.Native.Nat.{ℕ, ◌≤◌, ◌<◌}
use native.Mathlib.Omega.{arith}
use lib.ListN.{drop, get_or, set}
use Rattle.matching.specs.Inner.Links.{Linked}
use Rattle.matching.specs.Inner.Classes.{class_at}
use Rattle.matching.proofs.Chains.{chaining_start, chaining_more}
use Rattle.matching.proofs.Links.{Filled, behind-set, filled_front}
use Rattle.matching.proofs.classes.link.Goals as goal
use Rattle.matching.proofs.classes.link.Goals.{After-fill, After-from-c}

-- the class of g is a key from g on
in_table : (c : After-from-c) → (c.loop-g.g ≤ c.from-c.result) × (c.from-c.result < c.args.n)
in_table c =
    let i = c.requires.1.within c.loop-g.g c.loop-g-test.true in
    omega (arith, i.0, i.1, c.from-c.ensures)

below : (c : After-from-c) → c.from-c.result < 32768
below c = omega (arith, (in_table c).1, c.requires.0)

-- all places are empty at first
filled : (c : After-fill) → Filled c.args.n 65535 c.args.prev.now (c.fill.new.self ++ drop c.args.n c.args.prev.now)
filled c = filled_front c.args.n 65535 c.args.prev.now c.fill.new.self (omega arith) (c.fill.ensures.after (λ y e. e))

pub loop-g-init : goal.loop-g-init
loop-g-init c =
    let f = filled (goal.at.loop-g-init c).After-fill in
    (chaining_start _ _ _ f.each (f.long ∙ c.requires.2), (λ g h. refl))

pub offset_bounds-prev-c : goal.offset_bounds-prev-c
offset_bounds-prev-c c = omega (arith, below c)

pub bounds-prev-c : goal.bounds-prev-c
bounds-prev-c c = omega (arith, below (goal.at.bounds-prev-c c).After-from-c)

pub offset_bounds-prev-c-in-loop-g : goal.offset_bounds-prev-c-in-loop-g
offset_bounds-prev-c-in-loop-g c = omega (arith, below (goal.at.offset_bounds-prev-c-in-loop-g c).After-from-c)

pub bounds-prev-c-in-loop-g : goal.bounds-prev-c-in-loop-g
bounds-prev-c-in-loop-g c = omega (arith, below (goal.at.bounds-prev-c-in-loop-g c).After-from-c)

pub loop-g-preserved : goal.loop-g-preserved
loop-g-preserved c =
    let a = c.args in
    let l = c.loop-g in
    let b = c.from-c.result in
    let f = get_or l.prev b 0 in
    let first = c.fill.new.self ++ drop a.n a.prev.now in (
      chaining_more a.class.now l.prev a.n l.g b c.requires.0 c.loop-g-test.true c.requires.1 c.from-c.ensures l.invariant.0,
      behind-set a.n (set l.prev b l.g) first l.g f c.loop-g-test.true
          (behind-set a.n l.prev first b l.g (in_table (goal.at.loop-g-preserved c).After-from-c).1 l.invariant.1),
    )

pub returns : goal.returns
returns c =
    let a = c.args in
    let l = c.loop-g in
    let e : l.g ≡ a.n = omega arith in record {
      linked = (subst (λ (g : ℕ). Linked (class_at a.class.now) l.prev g) e l.invariant.0.links, l.invariant.0.prev_long);
      behind = (λ g h. l.invariant.1 g h ∙ (filled (goal.at.returns c).After-fill).behind g h);
    }
