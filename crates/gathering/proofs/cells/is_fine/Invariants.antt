-- The loop has looked at the first j steps of the row: the laws of FineCells. Assumes nothing.
use Rattle.gathering.proofs.FineCells.{Climbed}
use Rattle.gathering.proofs.cells.is_fine.Given as goal

abbrev pub invariant-loop-j : goal.invariant-loop-j
invariant-loop-j l = Climbed l.d l.j l.row l.up l.last
