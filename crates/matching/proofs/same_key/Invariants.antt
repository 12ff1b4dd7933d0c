-- Two keys are compared vertex by vertex. The loop's invariant: those passed are the same.
use mathlib.Core.Path.{◌≡◌}
use mathlib.Core.Bool.{cond}
use Prim.Native.Nat.{ℕ, ◌-◌, ◌≤◌, ◌<◌}
use lib.Dec.{ltb}
use lib.ListN.{get_or}
use Rattle.simplex.specs.Faces.{without}
use Rattle.matching.specs.Inner.Matching.{cell_row}
use Rattle.matching.proofs.same_key.Given as goal

abbrev pub invariant-loop-j : goal.invariant-loop-j
invariant-loop-j l =
    (l.m ≡ cond (ltb l.a l.k) (l.k - 1) l.k)
    × (l.m ≡ cond (ltb l.b l.k) (l.k - 1) l.k)
    × (l.j ≤ l.m)
    × ((i : ℕ) → i < l.j → get_or (without l.a (cell_row l.rows l.k l.p)) i 0 ≡ get_or (without l.b (cell_row l.rows l.k l.q)) i 0)
