-- The cells are linked one after the other.
use Prim.Native.Nat.{◌*◌}
use Rattle.matching.specs.Inner.Matching.{key_row, Behind}
use Rattle.matching.specs.Inner.Buckets.{bucket_at}
use Rattle.matching.specs.Inner.Links.{Linking}
use Rattle.matching.proofs.Keys.link.Given as goal

abbrev pub invariant-loop-p : goal.invariant-loop-p
invariant-loop-p l =
    Linking (bucket_at (key_row l.rows l.self.k l.self.w l.self.first)) l.head l.prev 32768 (l.p * l.self.w)
    × Behind (l.s * l.self.w) l.prev l.initial.prev
