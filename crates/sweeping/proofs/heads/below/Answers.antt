-- By the test. Assumes nothing.
use Rattle.std.proofs.Common.{refl, eq-eqb, ne_eqb}
use Rattle.sweeping.proofs.heads.below.Goals as goal

pub returns-then-k-eq0 : goal.returns-then-k-eq0
returns-then-k-eq0 c = rw (eq-eqb _ _ c.if-k-eq0.true) refl

pub returns : goal.returns
returns c = rw (ne_eqb _ _ c.if-k-eq0.false) refl
