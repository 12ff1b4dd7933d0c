-- `move_level` moves the points of a level. The invariant: k of them are moved, and nothing else is written. Assumes nothing.
use Rattle.points.proofs.Writing.{Moving}
use Rattle.points.proofs.levels.move_level.Given as goal

abbrev pub invariant-loop-k : goal.invariant-loop-k
invariant-loop-k l = Moving l.step l.n l.v l.at l.initial.out l.k l.out
