-- The keys of the places passed. Assumes nothing.
use mathlib.Core.Path.{◌≡◌}
use Prim.Native.Nat.{suc, ◌+◌, ◌*◌, ◌^◌}
use lib.ListN.{length}
use Rattle.soundness.specs.Inner.Coding.{CodedTo, Rooms}
use Rattle.soundness.proofs.codes.put_cell.Given as goal

abbrev pub invariant-loop-a : goal.invariant-loop-a
invariant-loop-a l =
    (l.one ≡ l.b ^ l.a) × Rooms (l.s * suc l.d) l.hash l.code l.known
    × CodedTo l.d l.b l.table l.hash l.code l.known (l.p * suc l.d + l.a)
    × (length l.hash ≡ length l.initial.hash) × (length l.code ≡ length l.initial.code) × (length l.known ≡ length l.initial.known)
