-- The vertices passed ascend. Assumes nothing.
use Prim.Native.Nat.{ℕ, suc, ◌<◌}
use Rattle.records.specs.Inner.Inside.{vertex_in}
use Rattle.soundness.proofs.rows.ascends.Given as goal

abbrev pub invariant-loop-j : goal.invariant-loop-j
invariant-loop-j l = (i : ℕ) → i < l.j → vertex_in l.d l.table l.p i < vertex_in l.d l.table l.p (suc i)
