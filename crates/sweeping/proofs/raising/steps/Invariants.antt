-- The loop has found the first j. Assumes nothing.
use Rattle.std.proofs.Common.{◌≡◌, ℕ, ◌<◌, length, get_or}
use Rattle.sweeping.specs.Inner.Raising.{step_of}
use Rattle.sweeping.proofs.raising.steps.Given as goal

abbrev pub invariant-loop-j : goal.invariant-loop-j
invariant-loop-j l = (length l.all ≡ 18) × ((q : ℕ) → q < l.j → get_or l.all q 0 ≡ step_of l.d l.v l.c q)
