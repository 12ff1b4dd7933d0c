-- `in_range` answers the definition of its name: an exponent field of all ones is in no range, and any other is a number's. Assumes nothing.
use mathlib.Core.Path.{sym, ap, ◌∙◌}
use lib.Ieee.{binary64, of_bits}
use Rattle.points.specs.Step.{in_range}
use Rattle.file.proofs.Range.{field_out, field_no_nan}
use Rattle.file.proofs.floats.in_range.Goals as goal

pub returns-then-exponent-eq2047 : goal.returns-then-exponent-eq2047
returns-then-exponent-eq2047 c = sym (ap (λ n. in_range (of_bits binary64 n)) (sym c.word64-bits.ensures) ∙ field_out _ c.if-exponent-eq2047.true)

pub float_from_bits-bits : goal.float_from_bits-bits
float_from_bits-bits c = field_no_nan _ c.if-exponent-eq2047.false

pub returns : goal.returns
returns c = c.in_range.ensures ∙ ap (λ n. in_range (of_bits binary64 n)) c.word64-bits.ensures
