-- What is counted and what is left make the whole. Assumes nothing.
use mathlib.Core.Path.{◌≡◌}
use Prim.Native.Nat.{◌+◌}
use lib.ListN.{length}
use Rattle.boundary.specs.Inner.Walk.{table_faces, faces_from}
use Rattle.boundary.proofs.counting.count_all.Given as goal

abbrev pub invariant-loop-p : goal.invariant-loop-p
invariant-loop-p l = l.n + length (faces_from l.d l.s l.table l.p 0) ≡ length (table_faces l.d l.s l.table)
