-- `step_in_range` tests the floats of a step, kind by kind. Assumes nothing.
use mathlib.Core.Path.{◌∙◌}
use Rattle.hosting.proofs.StepLaws.{in_slide, in_slant, in_turn}
use Rattle.hosting.proofs.step_bits.step_in_range.Goals as goal

pub returns-then-t-eq1 : goal.returns-then-t-eq1
returns-then-t-eq1 c = c.floats_ok.ensures ∙ in_slide _ c.if-t-eq1.true

pub returns-then-t-eq2 : goal.returns-then-t-eq2
returns-then-t-eq2 c = c.floats_ok-then-t-eq2.ensures ∙ in_slant _ c.if-t-eq1.false c.if-t-eq2.true

pub returns : goal.returns
returns c = c.floats_ok-2.ensures ∙ in_turn _ c.if-t-eq1.false c.if-t-eq2.false
