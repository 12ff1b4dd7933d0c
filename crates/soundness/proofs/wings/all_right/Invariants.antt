-- The keys passed are right. Assumes nothing.
use mathlib.Core.Path.{◌≡◌}
use Prim.Native.Nat.{suc, ◌+◌, ◌*◌, ◌≤◌}
use lib.ListN.{length}
use Rattle.soundness.specs.Inner.Pairing.{Passing}
use Rattle.soundness.proofs.wings.all_right.Given as goal

abbrev pub invariant-loop-g : goal.invariant-loop-g
invariant-loop-g l =
    Passing l.d l.s l.table l.hash l.head l.next l.g l.n × (l.g ≡ l.p * suc l.d + l.a) × (l.a ≤ l.d)
    × (length l.head ≡ length l.initial.head) × (length l.next ≡ length l.initial.next)
