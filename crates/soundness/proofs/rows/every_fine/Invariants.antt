-- The records passed are fine. Assumes nothing.
use Prim.Native.Nat.{ℕ, ◌<◌}
use Rattle.soundness.specs.Inner.Certified.{Fine}
use Rattle.soundness.proofs.rows.every_fine.Given as goal

abbrev pub invariant-loop-p : goal.invariant-loop-p
invariant-loop-p l = (q : ℕ) → q < l.p → Fine l.d l.v l.table q
