-- The keys passed are linked. Assumes nothing.
use mathlib.Core.Path.{◌≡◌}
use Prim.Native.Nat.{suc, ◌+◌, ◌*◌, ◌≤◌}
use Rattle.linking.specs.Inner.Linking.{Linkable, SameCells}
use Rattle.linking.proofs.pairing.link_all.Given as goal

abbrev pub invariant-loop-g : goal.invariant-loop-g
invariant-loop-g l =
    Linkable l.d l.s l.table l.hash l.head l.next l.g × SameCells l.d l.s l.initial.table l.table × (l.g ≡ l.p * suc l.d + l.a) × (l.a ≤ l.d)
