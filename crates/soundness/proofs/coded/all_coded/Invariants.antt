-- The keys passed are right. Assumes nothing.
use mathlib.Core.Path.{◌≡◌}
use lib.ListN.{length}
use Rattle.soundness.specs.Inner.Pairing.{PassingAlike}
use Rattle.soundness.proofs.coded.all_coded.Given as goal

abbrev pub invariant-loop-g : goal.invariant-loop-g
invariant-loop-g l =
    PassingAlike l.d l.s l.table l.hash l.head l.next l.g l.n × (length l.head ≡ length l.initial.head)
    × (length l.next ≡ length l.initial.next)
