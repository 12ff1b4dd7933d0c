-- A hash times n is below n times 2 ^ 32. Assumes nothing.
use mathlib.Core.Path.{ap}
use Prim.Native.Nat.{ℕ, suc, ◌*◌, ◌/◌, ◌<◌}
use native.Mathlib.Nat.{div-lt_iff_lt-mul, mul-le-mul, mul-le-mul_right, suc-mul}
use native.Mathlib.Omega.{arith}
use Rattle.soundness.specs.Inner.Hashing.{bucket_in}
use Rattle.soundness.proofs.buckets.bucket.Goals as goal

inside : (h n : ℕ) → 0 < n → h < 4294967296 → h * n / 4294967296 < n
inside h n some l =
    (div-lt_iff_lt-mul {k = 4294967296} {x = h * n} {y = n} (omega arith)).1
    (omega (arith, suc-mul h n, mul-le-mul_right {m = suc h} {n = 4294967296} n l))

pub overflow_mul-result : goal.overflow_mul-result
overflow_mul-result c =
    let w = c.from.result in
    omega (arith, mul-le-mul {n₁ = w} {m₁ = c.args.n} {n₂ = 4294967295} {m₂ = 65536} (omega (arith, c.from.ensures, c.ranges.h)) c.requires.1)

pub returns : goal.returns
unfolding bucket_in
returns c =
    (ap (λ x. x * c.args.n / 4294967296) c.from.ensures, inside c.from.result c.args.n c.requires.0 (omega (arith, c.from.ensures, c.ranges.h)))
