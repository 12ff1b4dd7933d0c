-- The loop's invariant: the words passed are within the most that they may be. Assumes nothing.
use mathlib.Core.Bool.{false}
use mathlib.Core.Path.{◌≡◌}
use Prim.Native.Nat.{ℕ, ◌<◌}
use Rattle.tables.specs.Inner.Held.{above_at}
use Rattle.tables.proofs.gather.any_above.Given as goal

abbrev pub invariant-loop-p : goal.invariant-loop-p
invariant-loop-p l = (q : ℕ) → q < l.p → above_at l.size l.k l.most l.words q ≡ false
