-- `table_words` is few enough. Assumes nothing.
use native.Mathlib.Nat.{mul-le-mul}
use native.Mathlib.Omega.{arith}
use Rattle.records.proofs.sizes.table_words.Goals as goal

pub overflow_mul-result : goal.overflow_mul-result
overflow_mul-result c = omega (arith, mul-le-mul {n₁ = c.args.s} {m₁ = c.record_size.result} {n₂ = 4096} {m₂ = 18} (omega arith) (omega arith))

pub returns : goal.returns
returns c = rw c.record_size.ensures
