-- What is counted and what is left make the cell's faces. Assumes nothing.
use mathlib.Core.Path.{◌≡◌}
use Prim.Native.Nat.{◌+◌, ◌≤◌}
use lib.ListN.{length}
use Rattle.boundary.specs.Inner.Walk.{faces_from}
use Rattle.boundary.proofs.counting.count_cell.Given as goal

abbrev pub invariant-loop-a : goal.invariant-loop-a
invariant-loop-a l =
    (l.n ≤ l.a) × (l.n + length (faces_from l.d l.s l.table l.p l.a) ≡ length (faces_from l.d l.s l.table l.p 0))
