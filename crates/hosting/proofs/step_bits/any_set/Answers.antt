-- `any_set` tests three numbers. Assumes nothing.
use borrow.Author.Tests.{eq-eqb, ne_eqb}
use Rattle.hosting.proofs.step_bits.any_set.Goals as goal

pub returns-then-x-ne0 : goal.returns-then-x-ne0
returns-then-x-ne0 c = simp (ne_eqb _ _ c.if-x-ne0.true)

pub returns-then-y-ne0 : goal.returns-then-y-ne0
returns-then-y-ne0 c = simp (eq-eqb _ _ c.if-x-ne0.false, ne_eqb _ _ c.if-y-ne0.true)

pub returns : goal.returns
returns c = simp (eq-eqb _ _ c.if-x-ne0.false, eq-eqb _ _ c.if-y-ne0.false)
