-- `unused_set` tests what is unused, kind by kind. Assumes nothing.
use mathlib.Core.Path.{◌∙◌}
use Rattle.hosting.proofs.StepLaws.{unused_slide, unused_slant, unused_turn}
use Rattle.hosting.proofs.step_bits.unused_set.Goals as goal

pub returns-then-t-eq1 : goal.returns-then-t-eq1
returns-then-t-eq1 c = c.any_set.ensures ∙ unused_slide c.args.t c.if-t-eq1.true

pub returns-then-t-eq2 : goal.returns-then-t-eq2
returns-then-t-eq2 c =
    c.any_set-then-t-eq2.ensures ∙ unused_slant c.args.t c.if-t-eq1.false c.if-t-eq2.true

pub returns : goal.returns
returns c =
    c.any_set-2.ensures ∙ unused_turn c.args.t c.if-t-eq1.false c.if-t-eq2.false
