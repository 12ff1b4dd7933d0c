-- `float_at` answers the float of the bits, which are no NaN's since it is in range. Assumes nothing.
use mathlib.Core.Path.{ap, ◌∙◌}
use lib.Ieee.{binary64, of_bits}
use Rattle.points.specs.Step.{in_range}
use Rattle.file.proofs.Range.{bits_no_nan}
use Rattle.file.proofs.floats.float_at.Goals as goal

pub float_from_bits-result : goal.float_from_bits-result
float_from_bits-result c =
    bits_no_nan _ (ap (λ n. in_range (of_bits binary64 n)) c.word64.ensures ∙ c.requires.1)

pub returns : goal.returns
returns c = ap (of_bits binary64) c.word64.ensures
