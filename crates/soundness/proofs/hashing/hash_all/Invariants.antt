-- The hashes of the cells passed. Assumes nothing.
use mathlib.Core.Path.{◌≡◌}
use Prim.Native.Nat.{suc, ◌*◌}
use lib.ListN.{length}
use Rattle.soundness.specs.Inner.Hashing.{Hashes}
use Rattle.soundness.proofs.hashing.hash_all.Given as goal

abbrev pub invariant-loop-p : goal.invariant-loop-p
invariant-loop-p l = (length l.hash ≡ length l.initial.hash) × Hashes l.d l.table l.hash (l.p * suc l.d)
