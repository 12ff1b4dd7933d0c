-- The loop has counted among the first i words, of those that are to be looked at. Assumes nothing.
use mathlib.Core.Path.{◌≡◌}
use Prim.Native.Nat.{◌≤◌}
use lib.ListN.{take, drop}
use Rattle.simplex.specs.Order.{below}
use Rattle.wing.proofs.uploaded.rank.Given as goal

abbrev pub invariant-loop-i : goal.invariant-loop-i
invariant-loop-i l = (l.r ≤ l.i) × (l.r ≡ below l.x (take l.i (take l.n (drop l.at l.words))))
