-- The loop's invariant: the cells passed are held in ascending order. Assumes nothing.
use mathlib.Core.Path.{◌≡◌}
use Prim.Native.Nat.{ℕ, ◌<◌}
use lib.ListN.{length}
use Rattle.tables.specs.Inner.Held.{cell_held, cell_read, material_at}
use Rattle.simplex.specs.Order.{ascending}
use Rattle.tables.proofs.gather.gather.Given as goal

abbrev pub invariant-loop-p : goal.invariant-loop-p
invariant-loop-p l =
    (length l.rows ≡ 32768) × (length l.signs ≡ 4096)
    × ((q : ℕ) → q < l.p → cell_held l.d l.rows l.signs (material_at l.size l.words) q ≡ ascending (cell_read l.size l.d l.words q))
