-- The goals that the search leaves. Assumes nothing.
use mathlib.Core.Bool.{false≢true}
use mathlib.Core.Path.{sym, ◌∙◌}
use native.Mathlib.Nat.{not-suc-le-zero}
use native.Mathlib.Omega.{arith}
use borrow.Author.Count.{below_more}
use Rattle.matching.proofs.Keys.flat.Goals as goal

pub loop-g-init : goal.loop-g-init
loop-g-init c = λ f l. absurd (not-suc-le-zero l)

pub digit-requires : goal.digit-requires
digit-requires c = (c.requires.0, omega (arith, c.requires.1))

pub returns-then-digit-ne0 : goal.returns-then-digit-ne0
returns-then-digit-ne0 c = λ e. absurd (false≢true e)

pub loop-g-preserved : goal.loop-g-preserved
loop-g-preserved c =
    below_more _ _ c.loop-g.invariant (sym c.digit.ensures.0 ∙ c.if-digit-ne0.false)

pub returns : goal.returns
returns c = λ e g l. c.loop-g.invariant g (omega arith)
