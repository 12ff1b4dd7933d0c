-- `step_unfit` answers row 5. Assumes nothing.
use mathlib.Core.Path.{refl, sym, ap, ◌∙◌}
use Rattle.points.specs.Step.{step_fits}
use Rattle.hosting.proofs.step_bits.step_unfit.Goals as goal

pub returns-then-fits : goal.returns-then-fits
returns-then-fits c = rw (ap (step_fits _) (sym c.step_of.ensures) ∙ sym c.fits.ensures ∙ c.if-fits.true)
    c.unused_set.ensures

pub returns : goal.returns
returns c = rw (ap (step_fits _) (sym c.step_of.ensures) ∙ sym c.fits.ensures ∙ c.if-fits.false) refl
