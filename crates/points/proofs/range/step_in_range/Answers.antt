-- `step_in_range` tests the floats of a step, by its cases. Assumes nothing.
use mathlib.Core.Path.{ap₂}
use mathlib.Core.Bool.{◌&&◌}
use Rattle.points.proofs.AllOf.{and_one}
use Rattle.points.proofs.range.step_in_range.Goals as goal

pub returns-in-Slide : goal.returns-in-Slide
returns-in-Slide c = rw (c.in-Slide.is, and_one) c.in_range.ensures

pub returns-in-Slant : goal.returns-in-Slant
returns-in-Slant c = rw (c.in-Slant.is, and_one) (ap₂ ◌&&◌ c.in_range-in-Slant.ensures c.in_range-in-Slant-2.ensures)

pub returns-in-Turn : goal.returns-in-Turn
returns-in-Turn c =
    rw (c.in-Turn.is, and_one)
    (ap₂ ◌&&◌ c.in_range-in-Turn.ensures (ap₂ ◌&&◌ c.in_range-in-Turn-2.ensures c.in_range-in-Turn-3.ensures))
