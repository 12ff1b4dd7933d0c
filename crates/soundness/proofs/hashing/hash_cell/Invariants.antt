-- The hashes of the places passed. Assumes nothing.
use mathlib.Core.Path.{◌≡◌}
use Prim.Native.Nat.{suc, ◌+◌, ◌*◌}
use lib.ListN.{length}
use Rattle.soundness.specs.Inner.Hashing.{Hashes}
use Rattle.soundness.proofs.hashing.hash_cell.Given as goal

abbrev pub invariant-loop-a : goal.invariant-loop-a
invariant-loop-a l = (length l.hash ≡ length l.initial.hash) × Hashes l.d l.table l.hash (l.p * suc l.d + l.a)
