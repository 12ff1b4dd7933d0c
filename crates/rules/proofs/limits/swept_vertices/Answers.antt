-- The swept vertices, few enough. Assumes nothing.
use Prim.Native.Nat.{◌+◌}
use native.Mathlib.Nat.{mul-le-mul}
use native.Mathlib.Omega.{arith}
use Rattle.rules.proofs.limits.swept_vertices.Goals as goal

pub overflow_mul-result : goal.overflow_mul-result
overflow_mul-result c = omega (arith, mul-le-mul {n₁ = c.args.h + 1} {m₁ = c.args.v} {n₂ = 65} {m₂ = 4096} (omega arith) c.requires.0)
