-- `floats_fit` tests the floats of the step and of the points. Assumes nothing.
use mathlib.Core.Path.{refl, sym, ◌∙◌}
use Rattle.hosting.proofs.moving.floats_fit.Goals as goal

pub returns-then-not-step_in_range : goal.returns-then-not-step_in_range
returns-then-not-step_in_range c = rw (sym c.step_in_range.ensures ∙ c.if-not-step_in_range.true) refl

pub returns : goal.returns
returns c = rw (sym c.step_in_range.ensures ∙ c.if-not-step_in_range.false) c.all_in_range.ensures
