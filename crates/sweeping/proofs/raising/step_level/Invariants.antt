-- The loop has written the first q records. Assumes nothing.
use Rattle.sweeping.specs.Inner.Raising.{SteppedLevel}
use Rattle.sweeping.proofs.raising.step_level.Given as goal

abbrev pub invariant-loop-q : goal.invariant-loop-q
invariant-loop-q g l = SteppedLevel g.row.D l.v l.c l.n l.q l.initial.out l.out
