-- The loop's invariant: in each row passed vertex j is below the next. Assumes nothing.
use mathlib.Core.Bool.{false}
use mathlib.Core.Path.{◌≡◌}
use Prim.Native.Nat.{ℕ, ◌<◌}
use Rattle.tables.specs.Inner.Held.{falls_at}
use Rattle.tables.proofs.gather.column_falls.Given as goal

abbrev pub invariant-loop-p : goal.invariant-loop-p
invariant-loop-p l = (q : ℕ) → q < l.p → falls_at l.rows q l.j ≡ false
