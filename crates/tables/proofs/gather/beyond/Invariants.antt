-- The loop's invariant: the last vertices passed are below v. Assumes nothing.
use mathlib.Core.Bool.{false}
use mathlib.Core.Path.{◌≡◌}
use Prim.Native.Nat.{ℕ, ◌<◌}
use Rattle.tables.specs.Inner.Held.{beyond_at}
use Rattle.tables.proofs.gather.beyond.Given as goal

abbrev pub invariant-loop-p : goal.invariant-loop-p
invariant-loop-p l = (q : ℕ) → q < l.p → beyond_at l.d l.v l.rows q ≡ false
