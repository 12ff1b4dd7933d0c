-- The hashes of the segments passed. Assumes nothing.
use mathlib.Core.Path.{◌≡◌}
use Prim.Native.Nat.{◌*◌}
use lib.ListN.{length}
use Rattle.soundness.specs.Inner.Hashing.{Hashes}
use Rattle.soundness.proofs.hashing.hash_segments.Given as goal

abbrev pub invariant-loop-p : goal.invariant-loop-p
invariant-loop-p l = (length l.hash ≡ length l.initial.hash) × Hashes 1 l.table l.hash (l.p * 2)
