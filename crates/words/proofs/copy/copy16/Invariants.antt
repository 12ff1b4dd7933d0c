-- `copy16` stores the numbers: in each turn one more of those that are left is stored. Assumes nothing.
use Prim.Native.Nat.{◌+◌}
use lib.ListN.{drop}
use Rattle.words.specs.Bytes.{words_from}
use Rattle.words.proofs.Writing.{Left}
use Rattle.words.proofs.copy.copy16.Given as goal

abbrev pub invariant-loop-k : goal.invariant-loop-k
invariant-loop-k l = Left l.to (words_from l.b l.at l.m) l.initial.out (l.to + l.k) (drop l.k (words_from l.b l.at l.m)) l.out
