-- `Step::fits` answers `step_fits`, by the cases of the step. Assumes nothing.
use mathlib.Core.Path.{refl, ap}
use mathlib.Core.Bool.{◌&&◌}
use lib.Dec.{leb}
use Rattle.points.specs.Step.{step_fits}
use Rattle.points.proofs.step.Step.fits.Goals as goal

pub returns-in-Slide : goal.returns-in-Slide
unfolding step_fits
returns-in-Slide c = rw c.in-Slide.is refl

pub returns-in-Slant : goal.returns-in-Slant
unfolding step_fits
returns-in-Slant c = rw c.in-Slant.is refl

pub returns-in-Turn : goal.returns-in-Turn
unfolding step_fits
returns-in-Turn c = rw c.in-Turn.is (ap (λ b. leb 3 c.args.n && b) c.on_circle.ensures)
