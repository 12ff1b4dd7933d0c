-- The products fit. Assumes nothing.
use mathlib.Core.Path.{ap}
use Prim.Native.Nat.{ℕ, ◌+◌, ◌*◌, ◌≤◌, ◌<◌}
use native.Mathlib.Nat.{mul-le-mul}
use native.Mathlib.Omega.{arith}
use Rattle.soundness.specs.Inner.Hashing.{term}
use Rattle.soundness.proofs.hashing.term.Goals as goal
use Rattle.soundness.proofs.hashing.term.Goals.{After-from-v}

-- of the smaller product, and of both
low : (v : ℕ) → v < 65536 → v * (v + 123456789) ≤ 65536 * 123522325
low v h = mul-le-mul {n₂ = 65536} {m₂ = 123522325} (omega arith) (omega arith)

high : (v : ℕ) → v < 65536 → v * (v * (v + 123456789) + 362436069) ≤ 65536 * (65536 * 123522325 + 362436069)
high v h = mul-le-mul {n₂ = 65536} {m₂ = 65536 * 123522325 + 362436069} (omega arith) (omega (arith, low v h))

abbrev vertex : After-from-v → ℕ
vertex c = c.from-v.result

small : (c : After-from-v) → vertex c < 65536
small c = omega (arith, c.from-v.ensures, c.ranges.x)

pub overflow_mul-result : goal.overflow_mul-result
overflow_mul-result c = omega (arith, low (vertex c) (small c))

pub overflow_add-result-2 : goal.overflow_add-result-2
overflow_add-result-2 c = omega (arith, low (vertex c) (small c))

pub overflow_mul-result-2 : goal.overflow_mul-result-2
overflow_mul-result-2 c = omega (arith, high (vertex c) (small c))

pub returns : goal.returns
unfolding term
returns c =
    (ap term c.from-v.ensures, omega (arith, high (vertex c) (small c)))
