-- `list_words` is few enough. Assumes nothing.
use native.Mathlib.Nat.{mul-le-mul}
use native.Mathlib.Omega.{arith}
use Rattle.records.proofs.sizes.list_words.Goals as goal

pub overflow_mul-result : goal.overflow_mul-result
overflow_mul-result c = omega (arith, mul-le-mul {n₁ = c.args.s} {m₁ = c.list_size.result} {n₂ = 4096} {m₂ = 10} (omega arith) (omega arith))

pub returns : goal.returns
returns c = rw c.list_size.ensures
