-- The weight of a vertex fits.
use mathlib.Core.Path.{ap}
use Prim.Native.Nat.{◌<◌}
use native.Mathlib.Omega.{arith}
use Rattle.matching.specs.Inner.Buckets.{term}
use Rattle.matching.proofs.Weights.{inner_below, outer_below}
use Rattle.matching.proofs.term.Goals as goal
use Rattle.matching.proofs.term.Goals.{After-from-v}

below : (c : After-from-v) → c.from-v.result < 65536
below c = omega arith

pub overflow_mul-result : goal.overflow_mul-result
overflow_mul-result c = omega (arith, inner_below _ (below c))

pub overflow_add-result-2 : goal.overflow_add-result-2
overflow_add-result-2 c = omega (arith, inner_below _ (below c))

pub overflow_mul-result-2 : goal.overflow_mul-result-2
overflow_mul-result-2 c = omega (arith, outer_below _ (below c))

pub returns : goal.returns
unfolding term
returns c = (ap term c.from-v.ensures, outer_below _ (below c))
