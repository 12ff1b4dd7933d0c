-- `nearest::is_negative` meets its contract: the sign is the highest bit. Assumes nothing.
use Rattle.points.proofs.Finite.{range_no_nan}
use Rattle.printing.proofs.Fractions.{negative_bits}
use Rattle.printing.proofs.nearest.is_negative.Goals as goal

pub float_to_bits-result : goal.float_to_bits-result
float_to_bits-result c = range_no_nan c.args.x c.requires

pub returns : goal.returns
returns c = negative_bits c.args.x c.well_formed.0.1 c.requires
