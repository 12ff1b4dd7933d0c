-- The swept cells, few enough. Assumes nothing.
use Prim.Native.Nat.{◌+◌, ◌*◌, ◌≤◌}
use native.Mathlib.Nat.{mul-le-mul}
use native.Mathlib.Omega.{arith}
use Rattle.sweep.proofs.limits.swept_cells.Goals as goal
use Rattle.sweep.proofs.limits.swept_cells.Goals.{Start}

level : (c : Start) → c.args.s * (c.args.d + 1) ≤ 28672
level c = mul-le-mul {n₁ = c.args.s} {m₁ = c.args.d + 1} {n₂ = 4096} {m₂ = 7} c.requires.1 (omega arith)

pub overflow_mul-result : goal.overflow_mul-result
overflow_mul-result c = omega (arith, level c)

pub overflow_mul-result-2 : goal.overflow_mul-result-2
overflow_mul-result-2 c = omega (arith, mul-le-mul {n₁ = c.args.h} {n₂ = 64} c.requires.2 (level c))
