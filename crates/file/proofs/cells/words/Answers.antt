-- `words` answers `cells_length`. Assumes nothing.
use mathlib.Core.Path.{ap, ap₂, ◌∙◌}
use Prim.Native.Nat.{◌*◌, ◌<◌}
use native.Mathlib.Omega.{arith}
use Rattle.records.specs.Layout.{list_size}
use Rattle.file.proofs.Parts.{product_below}
use Rattle.file.proofs.cells.words.Goals as goal

pub list_size-requires : goal.list_size-requires
list_size-requires c = omega (arith, c.dimension.ensures.1)

pub overflow_mul-result : goal.overflow_mul-result
overflow_mul-result c =
    let small : c.list_size.result < 1024 = omega (arith, c.dimension.ensures.1, c.list_size.ensures) in
    record { fits = omega (arith, product_below c.cell_count.ensures.1 small) }

pub returns : goal.returns
returns c = ap₂ ◌*◌ c.cell_count.ensures.0 (c.list_size.ensures ∙ ap list_size c.dimension.ensures.0)
