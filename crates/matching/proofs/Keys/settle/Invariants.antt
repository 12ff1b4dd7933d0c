-- From the last key down. The loop's invariant: the keys before g are linked, and those from g on are answered.
use mathlib.Core.Path.{◌≡◌}
use Prim.Native.Nat.{ℕ, ◌≤◌, ◌<◌}
use lib.ListN.{length, get_or}
use Rattle.matching.specs.Inner.Matching.{key_row, earlier, Behind}
use Rattle.matching.specs.Inner.Buckets.{bucket_at}
use Rattle.matching.specs.Inner.Links.{Linked}
use Rattle.matching.proofs.Keys.settle.Given as goal

abbrev pub invariant-loop-g : goal.invariant-loop-g
invariant-loop-g l =
    (length l.prev ≡ 32768)
    × Linked (bucket_at (key_row l.rows l.self.k l.self.w l.self.first)) l.prev l.g
    × ((f : ℕ) → l.g ≤ f → f < l.n → get_or l.prev f 0 ≡ earlier l.rows l.self.k l.self.w l.self.first f)
    × Behind l.n l.prev l.initial.prev
