-- `cell_at` answers where a cell stands, and that all of it is within the file. Assumes nothing.
use mathlib.Core.Path.{◌≡◌, ap₂, ◌∙◌}
use Prim.Native.Nat.{◌≤◌, ◌+◌, ◌*◌}
use native.Mathlib.Omega.{arith}
use lib.ListN.{length}
use Rattle.file.specs.File.{cell_bytes}
use Rattle.file.proofs.Parts.{cell_place, size, cell_room_lem}
use Rattle.file.proofs.cells.cell_at.Goals as goal
use Rattle.file.proofs.cells.cell_at.Goals.{After-cell_size-size}

-- the place that the code computes, and that the cell is within the file
placed : (c : After-cell_size-size) → let a = c.args in (c.cells_start-start.result + a.p * c.cell_size-size.result ≡ cell_place a.b.now a.p)
    × (cell_place a.b.now a.p + size a.b.now ≤ length a.b.now)
placed c =
    let a = c.args in (
      ap₂ (λ x n. x + a.p * n) c.cells_start-start.ensures.0 (c.cell_size-size.ensures.0
          ∙ ap₂ cell_bytes c.version.ensures.0 c.dimension.ensures.0),
      cell_room_lem a.b.now c.requires.0 a.p c.requires.1,
    )

pub overflow_mul-result : goal.overflow_mul-result
overflow_mul-result c = record { fits = omega (arith, placed c) }

pub overflow_add-result : goal.overflow_add-result
overflow_add-result c = record { fits = omega (arith, placed c) }

pub returns : goal.returns
returns c = ((placed c).0, omega (arith, placed c))
