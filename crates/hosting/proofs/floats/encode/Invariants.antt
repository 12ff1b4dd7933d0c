-- `encode` stores the bytes: in each turn those of the next float. Assumes nothing.
use Prim.Native.Nat.{◌*◌}
use lib.ListN.{drop}
use Rattle.words.proofs.Writing.{Left}
use Rattle.hosting.specs.Floats.{float_bytes}
use Rattle.hosting.proofs.floats.encode.Given as goal

abbrev pub invariant-loop-k : goal.invariant-loop-k
invariant-loop-k l = Left 0 (float_bytes l.xs) l.initial.out (l.k * 8) (float_bytes (drop l.k l.xs)) l.out
