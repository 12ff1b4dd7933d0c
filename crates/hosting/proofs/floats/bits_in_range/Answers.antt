-- `bits_in_range`: an exponent field of all ones is in no range, and any other is a number's. Assumes nothing.
use mathlib.Core.Path.{sym}
use Rattle.file.proofs.Range.{field_out, field_no_nan}
use Rattle.hosting.proofs.floats.bits_in_range.Goals as goal

pub returns-then-exponent-eq2047 : goal.returns-then-exponent-eq2047
returns-then-exponent-eq2047 c = sym (field_out _ c.if-exponent-eq2047.true)

pub float_from_bits-bits : goal.float_from_bits-bits
float_from_bits-bits c = field_no_nan _ c.if-exponent-eq2047.false
