-- The goals that the search leaves. Assumes nothing.
use mathlib.Core.Path.{sym, ◌∙◌}
use Prim.Native.Nat.{ℕ}
use native.Mathlib.Omega.{arith}
use borrow.Author.Count.{below_none, below_more}
use Rattle.tables.specs.Inner.Held.{falls, falls_at}
use Rattle.words.proofs.Below.{any_below_lem, below_not, none_below, some_below}
use Rattle.tables.proofs.gather.any_falls.Goals as goal

pub loop-j-init : goal.loop-j-init
loop-j-init c = below_none _

pub returns-then-column_falls : goal.returns-then-column_falls
returns-then-column_falls c =
    let a = c.args in
    let j = c.loop-j.j in
    let f = some_below (λ (p : ℕ). falls_at a.rows.now p j) a.s (cc) in
    sym (any_below_lem (falls a.d a.rows.now) a.s f.0 f.1
    (any_below_lem (falls_at a.rows.now f.0) _ j c.loop-j-test.true f.2))

pub loop-j-preserved : goal.loop-j-preserved
loop-j-preserved c = below_more _ _ c.loop-j.invariant (sym c.column_falls.ensures ∙ c.if-column_falls.false)

pub returns : goal.returns
returns c =
    let a = c.args in
    sym (none_below (falls a.d a.rows.now) _ (λ p l. none_below (falls_at a.rows.now p) a.d
    (λ j h. below_not (λ (q : ℕ). falls_at a.rows.now q j) a.s (c.loop-j.invariant j (omega arith)) p l)))
