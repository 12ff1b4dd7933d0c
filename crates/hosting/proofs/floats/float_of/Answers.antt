-- `float_of`: bits in range are no NaN's. Assumes nothing.
use Rattle.file.proofs.Range.{bits_no_nan}
use Rattle.hosting.proofs.floats.float_of.Goals as goal

pub float_from_bits-result : goal.float_from_bits-result
float_from_bits-result c = bits_no_nan _ c.requires
