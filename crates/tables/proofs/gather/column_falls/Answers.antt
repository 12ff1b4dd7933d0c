-- The goals that the search leaves. Assumes nothing.
use mathlib.Core.Path.{sym}
use Prim.Native.Nat.{ℕ}
use native.Mathlib.Omega.{arith}
use borrow.Author.Count.{below_none, below_more}
use borrow.Author.Tests.{le-leb, lt-leb}
use Rattle.tables.specs.Inner.Held.{falls_at}
use Rattle.words.proofs.Below.{any_below_lem, none_below}
use Rattle.tables.proofs.gather.column_falls.Goals as goal

pub loop-p-init : goal.loop-p-init
loop-p-init c = below_none _

pub returns-then-rows-p : goal.returns-then-rows-p
returns-then-rows-p c =
    let a = c.args in
    sym (any_below_lem (λ (q : ℕ). falls_at a.rows.now q a.j) _ _ c.loop-p-test.true (le-leb _ _ c.if-rows-p.true))

pub loop-p-preserved : goal.loop-p-preserved
loop-p-preserved c =
    below_more _ _ c.loop-p.invariant (lt-leb _ _ c.if-rows-p.false)

pub returns : goal.returns
returns c =
    let a = c.args in
    sym (none_below (λ (q : ℕ). falls_at a.rows.now q _) a.s (λ q l. c.loop-p.invariant q (omega arith)))
