-- The classes are parted one after the other.
use Prim.Native.Nat.{◌<◌}
use Rattle.matching.specs.Inner.Classes.{key_digit, Parted, Seen}
use Rattle.matching.proofs.Keys.refine.Given as goal

abbrev pub invariant-loop-c : goal.invariant-loop-c
invariant-loop-c l =
    Parted (λ b. b < l.c) l.n l.initial.class (key_digit l.rows l.self.k l.self.w l.self.first l.j) l.class × Seen l.seen l.c
