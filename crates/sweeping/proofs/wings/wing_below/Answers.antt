-- `wing_below` is `wing_below`. Assumes nothing.
use Rattle.std.proofs.Common.{refl, eq-eqb, ne_eqb}
use Rattle.sweeping.proofs.wings.wing_below.Goals as goal

pub returns-then-k-ne0 : goal.returns-then-k-ne0
returns-then-k-ne0 c = rw (ne_eqb _ _ c.if-k-ne0.true) c.cell_number.ensures

pub returns-then-i-eq0 : goal.returns-then-i-eq0
returns-then-i-eq0 c = rw (eq-eqb _ _ c.if-k-ne0.false, eq-eqb _ _ c.if-i-eq0.true) refl

pub returns : goal.returns
returns c = rw (eq-eqb _ _ c.if-k-ne0.false, ne_eqb _ _ c.if-i-eq0.false) c.cell_number-2.ensures
