-- Both halves of the code. Assumes nothing.
use mathlib.Core.Path.{refl}
use Rattle.soundness.specs.Inner.Coding.{mixed}
use Rattle.soundness.proofs.codes.mixed.Goals as goal

pub returns : goal.returns
unfolding mixed
returns c = refl
