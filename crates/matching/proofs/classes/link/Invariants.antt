-- The keys are linked one after the other.
use Rattle.matching.specs.Inner.Matching.{Behind}
use Rattle.matching.specs.Inner.Classes.{Chaining}
use Rattle.matching.proofs.classes.link.Given as goal

abbrev pub invariant-loop-g : goal.invariant-loop-g
invariant-loop-g l = Chaining l.class l.prev l.n l.g × Behind l.n l.prev l.initial.prev
