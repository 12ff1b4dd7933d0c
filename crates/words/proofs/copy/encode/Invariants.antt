-- `encode` stores the bytes: in each turn the two of the next number. Assumes nothing.
use Prim.Native.Nat.{◌*◌}
use lib.ListN.{drop}
use Rattle.words.specs.Bytes.{bytes_of}
use Rattle.words.proofs.Writing.{Left}
use Rattle.words.proofs.copy.encode.Given as goal

abbrev pub invariant-loop-p : goal.invariant-loop-p
invariant-loop-p l = Left 0 (bytes_of l.words) l.initial.out (l.p * 2) (bytes_of (drop l.p l.words)) l.out
