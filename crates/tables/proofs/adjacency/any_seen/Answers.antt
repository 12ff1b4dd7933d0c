-- The goals that the search leaves. Assumes nothing.
use mathlib.Core.Path.{sym, ◌∙◌}
use native.Mathlib.Omega.{arith}
use borrow.Author.Count.{below_none, below_more}
use Rattle.words.proofs.Below.{any_below_lem, none_below}
use Rattle.tables.proofs.adjacency.any_seen.Goals as goal

pub loop-g-init : goal.loop-g-init
loop-g-init c = below_none _

pub returns-then-seen : goal.returns-then-seen
returns-then-seen c = sym (any_below_lem _ _ _ c.loop-g-test.true (sym c.seen.ensures ∙ c.if-seen.true))

pub loop-g-preserved : goal.loop-g-preserved
loop-g-preserved c = below_more _ _ c.loop-g.invariant (sym c.seen.ensures ∙ c.if-seen.false)

pub returns : goal.returns
returns c = sym (none_below _ c.args.n (λ f l. c.loop-g.invariant f (omega arith)))
