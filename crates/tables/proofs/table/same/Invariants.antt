-- The loop has found the first p records the same. Assumes nothing.
use mathlib.Core.Path.{◌≡◌}
use Prim.Native.Nat.{ℕ, ◌*◌, ◌<◌}
use Rattle.tables.specs.Inner.Held.{material_at, record_held, run}
use Rattle.records.specs.Layout.{record_size}
use Rattle.tables.proofs.table.same.Given as goal

abbrev pub invariant-loop-p : goal.invariant-loop-p
invariant-loop-p l =
    (q : ℕ) → q < l.p → run (record_size l.d) (q * record_size l.d) l.table
    ≡ record_held l.d l.rows l.signs l.wings (material_at (record_size l.d) l.table q) q
