-- The loop has joined the levels over the first p cells. Assumes nothing.
use Rattle.sweeping.specs.Inner.SweptWords.{level_words}
use Rattle.sweeping.proofs.Joining.{Joined}
use Rattle.sweeping.proofs.raising.join.Given as goal

abbrev pub invariant-loop-p : goal.invariant-loop-p
invariant-loop-p l =
    Joined l.d l.at (level_words l.d l.v l.s l.h l.table l.i) l.initial.out l.p l.out
