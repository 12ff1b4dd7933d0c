-- The goals that the search leaves. Assumes nothing.
use mathlib.Core.Path.{sym, ap, ◌∙◌}
use native.Mathlib.Omega.{arith}
use lib.Dec.{leb}
use borrow.Author.Count.{below_none, below_more}
use borrow.Author.Tests.{le-leb, lt-leb}
use Rattle.tables.specs.Inner.Held.{beyond_at}
use Rattle.words.proofs.Below.{any_below_lem, none_below}
use Rattle.tables.proofs.gather.beyond.Goals as goal

pub loop-p-init : goal.loop-p-init
loop-p-init c = below_none _

pub returns-then-v-from : goal.returns-then-v-from
returns-then-v-from c =
    let a = c.args in
    sym (any_below_lem (beyond_at a.d a.v a.rows.now) _ _
    c.loop-p-test.true (ap (leb _) (sym c.from.ensures) ∙ le-leb _ _ c.if-v-from.true))

pub loop-p-preserved : goal.loop-p-preserved
loop-p-preserved c =
    below_more _ _ c.loop-p.invariant (ap (leb _) (sym c.from.ensures) ∙ lt-leb _ _ c.if-v-from.false)

pub returns : goal.returns
returns c =
    let a = c.args in
    sym (none_below (beyond_at _ _ a.rows.now) a.s (λ q l. c.loop-p.invariant q (omega arith)))
