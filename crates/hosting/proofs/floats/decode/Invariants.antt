-- `decode` stores the floats: in each turn one more of those that are left is stored. Assumes nothing.
use lib.ListN.{drop}
use Rattle.words.proofs.Writing.{Left}
use Rattle.hosting.specs.Floats.{floats64}
use Rattle.hosting.proofs.floats.decode.Given as goal

abbrev pub invariant-loop-k : goal.invariant-loop-k
invariant-loop-k l = Left 0 (floats64 l.b) l.initial.out l.k (drop l.k (floats64 l.b)) l.out
