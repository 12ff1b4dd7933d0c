-- The links of a class are followed back. The loop's invariant: what stands above f is visited.
use mathlib.Core.Path.{◌≡◌}
use mathlib.Core.Logic.{◌⊎◌}
use Prim.Native.Nat.{◌<◌}
use lib.ListN.{get_or}
use Rattle.matching.specs.Inner.Classes.{key_digit, Visiting}
use Rattle.matching.proofs.Earlier.{rank}
use Rattle.matching.proofs.Keys.part_class.Given as goal

abbrev pub invariant-loop-f : goal.invariant-loop-f
invariant-loop-f l =
    Visiting l.n l.initial.class (key_digit l.rows l.self.k l.self.w l.self.first l.j) l.class l.seen l.c (rank l.f)
    × ((l.f ≡ 65535) ⊎ ((l.f < l.n) × (get_or l.initial.class l.f 0 ≡ l.c)))

abbrev pub decreases-loop-f : goal.decreases-loop-f
decreases-loop-f l = rank l.f
