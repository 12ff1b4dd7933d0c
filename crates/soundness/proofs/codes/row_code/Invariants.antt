-- The vertices passed, from the last on, as a number. Assumes nothing.
use mathlib.Core.Path.{◌≡◌}
use Prim.Native.Nat.{◌+◌, ◌≤◌}
use lib.ListN.{drop}
use Rattle.soundness.specs.Inner.Certified.{row_in}
use Rattle.soundness.specs.Inner.Coding.{code_of}
use Rattle.soundness.proofs.codes.row_code.Given as goal

abbrev pub invariant-loop-j : goal.invariant-loop-j
invariant-loop-j l = (l.j ≤ l.d + 1) × (l.c ≡ code_of l.b (drop l.j (row_in l.d l.table l.p)))
