-- `write_levels` writes the levels. The invariant: levels 0 to i are written, and nothing else. Assumes nothing.
use Rattle.points.proofs.Writing.{Climbing}
use Rattle.points.proofs.levels.write_levels.Given as goal

abbrev pub invariant-loop-i : goal.invariant-loop-i
invariant-loop-i l = Climbing l.step l.n l.v l.h l.points l.initial.out l.i l.out
