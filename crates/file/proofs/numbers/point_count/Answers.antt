-- `point_count` answers `point_count`. Assumes nothing.
use mathlib.Core.Path.{ap₂}
use Prim.Native.Nat.{◌*◌}
use native.Mathlib.Omega.{arith}
use Rattle.file.proofs.Parts.{product_below}
use Rattle.file.proofs.numbers.point_count.Goals as goal

pub overflow_mul-result : goal.overflow_mul-result
overflow_mul-result c = record { fits = omega (arith, product_below c.vertex_count.ensures.1 c.axes.ensures.1) }

pub returns : goal.returns
returns c =
    (ap₂ ◌*◌ c.vertex_count.ensures.0 c.axes.ensures.0, product_below c.vertex_count.ensures.1 c.axes.ensures.1)
