-- `wrong_length` answers row 3. Assumes nothing.
use mathlib.Core.Path.{◌≡◌, ap, ap₂, ◌∙◌}
use mathlib.Core.Bool.{not}
use Prim.Native.Nat.{◌+◌, ◌*◌}
use native.Mathlib.Omega.{arith}
use lib.Dec.{eqb}
use lib.ListN.{length}
use Rattle.file.specs.File.{cell_bytes, file_length}
use Rattle.file.proofs.Parts.{product_below}
use Rattle.file.proofs.numbers.wrong_length.Goals as goal

pub overflow_mul-result : goal.overflow_mul-result
overflow_mul-result c =
    record { fits = omega (arith, product_below c.cell_count-count.ensures.1 c.cell_size-size.ensures.1) }

pub overflow_add-result : goal.overflow_add-result
overflow_add-result c =
    record { fits = omega (arith, product_below c.cell_count-count.ensures.1 c.cell_size-size.ensures.1, c.cells_start-start.ensures.1) }

pub returns : goal.returns
returns c =
    let b = c.args.b.now in
    let all : c.cells_start-start.result + c.cell_count-count.result * c.cell_size-size.result ≡ file_length b =
    ap₂ ◌+◌ c.cells_start-start.ensures.0 (ap₂ ◌*◌ c.cell_count-count.ensures.0 (c.cell_size-size.ensures.0
    ∙ ap₂ cell_bytes c.version.ensures.0 c.dimension.ensures.0)) in
    ap (λ n. not (eqb (length b) n)) all
