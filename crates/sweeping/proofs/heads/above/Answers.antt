-- By the test. Assumes nothing.
use Rattle.std.proofs.Common.{refl, arith, le-ltb, lt-ltb}
use Rattle.sweeping.proofs.heads.above.Goals as goal

pub returns-then-k-d : goal.returns-then-k-d
returns-then-k-d c = rw (lt-ltb _ _ c.if-k-d.true) (omega arith)

pub returns : goal.returns
returns c = rw (le-ltb _ _ c.if-k-d.false) refl
