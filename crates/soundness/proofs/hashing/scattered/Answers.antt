-- The hash as it is defined. Assumes nothing.
use mathlib.Core.Path.{refl}
use Rattle.soundness.specs.Inner.Hashing.{scattered}
use Rattle.soundness.proofs.hashing.scattered.Goals as goal

pub returns : goal.returns
unfolding scattered
returns c = refl
