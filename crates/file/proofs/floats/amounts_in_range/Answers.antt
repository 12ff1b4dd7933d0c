-- `amounts_in_range` tests the three floats of the header. Assumes nothing.
use mathlib.Core.Path.{sym, ap₂, ◌∙◌}
use mathlib.Core.Bool.{◌&&◌, and-true}
use Rattle.file.proofs.floats.amounts_in_range.Goals as goal

pub returns : goal.returns
returns c = ap₂ ◌&&◌ c.in_range.ensures (ap₂ ◌&&◌ c.in_range-2.ensures (c.in_range-3.ensures ∙ sym (and-true _)))
