-- `put` writes a copy of a list. The invariant: the first i elements are copied. Assumes nothing.
use lib.ListN.{drop}
use Rattle.words.proofs.Writing.{Left}
use Rattle.points.proofs.point.put.Given as goal

abbrev pub invariant-loop-i : goal.invariant-loop-i
invariant-loop-i l = Left 0 l.xs l.initial.out l.i (drop l.i l.xs) l.out
