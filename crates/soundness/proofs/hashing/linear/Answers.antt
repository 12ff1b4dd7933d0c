-- The hash as it is defined. Assumes nothing.
use mathlib.Core.Path.{ap}
use Rattle.soundness.specs.Inner.Hashing.{linear}
use Rattle.soundness.proofs.hashing.linear.Goals as goal

pub returns : goal.returns
unfolding linear
returns c = ap linear c.from.ensures
