-- The loop has raised the first j words. Assumes nothing.
use Rattle.sweeping.proofs.Onward.{Going}
use Rattle.sweeping.proofs.raising.raise.Given as goal

abbrev pub invariant-loop-j : goal.invariant-loop-j
invariant-loop-j l = Going l.n l.at l.initial.out l.out l.j
