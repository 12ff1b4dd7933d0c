-- The loop's invariant: none of the keys passed was seen before. Assumes nothing.
use mathlib.Core.Bool.{false}
use mathlib.Core.Path.{◌≡◌}
use Prim.Native.Nat.{ℕ, ◌<◌}
use Rattle.tables.specs.Inner.Scan.{seen_at}
use Rattle.tables.proofs.adjacency.any_seen.Given as goal

abbrev pub invariant-loop-g : goal.invariant-loop-g
invariant-loop-g l = (f : ℕ) → f < l.g → seen_at l.n l.prev f ≡ false
