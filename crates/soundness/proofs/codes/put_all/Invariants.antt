-- The keys of the cells passed. Assumes nothing.
use mathlib.Core.Path.{◌≡◌}
use Prim.Native.Nat.{suc, ◌*◌}
use lib.ListN.{length}
use Rattle.soundness.specs.Inner.Coding.{CodedTo, Rooms}
use Rattle.soundness.proofs.codes.put_all.Given as goal

abbrev pub invariant-loop-p : goal.invariant-loop-p
invariant-loop-p l =
    Rooms (l.s * suc l.d) l.hash l.code l.known × CodedTo l.d l.b l.table l.hash l.code l.known (l.p * suc l.d)
    × (length l.hash ≡ length l.initial.hash) × (length l.code ≡ length l.initial.code) × (length l.known ≡ length l.initial.known)
