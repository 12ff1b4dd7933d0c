-- The keys of a cell are linked one after the other.
use Prim.Native.Nat.{◌+◌, ◌*◌}
use Rattle.matching.specs.Inner.Matching.{key_row, Behind}
use Rattle.matching.specs.Inner.Buckets.{bucket_at}
use Rattle.matching.specs.Inner.Links.{Linking}
use Rattle.matching.proofs.Keys.link_cell.Given as goal

abbrev pub invariant-loop-i : goal.invariant-loop-i
invariant-loop-i l =
    Linking (bucket_at (key_row l.rows l.self.k l.self.w l.self.first)) l.head l.prev 32768 (l.p * l.self.w + l.i)
    × Behind (l.p * l.self.w + l.self.w) l.prev l.initial.prev
