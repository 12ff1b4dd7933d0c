-- The weights of a cell's vertices, one by one, and their sum. Assumes nothing.
use Prim.Native.Nat.{◌≤◌, ◌*◌, ◌^◌}
use Rattle.matching.proofs.Weights.{Weighed}
use Rattle.matching.proofs.weigh.Given as goal

abbrev pub invariant-loop-j : goal.invariant-loop-j
invariant-loop-j l = Weighed l.rows l.p l.k l.j l.sum l.terms × (l.sum ≤ l.j * 2 ^ 50)
