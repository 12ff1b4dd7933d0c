-- The five tests of a meeting. Assumes nothing.
use borrow.Author.Tests.{eqb-false, not-true}
use Rattle.soundness.proofs.KnownKeys.{coded_met}
use Rattle.soundness.proofs.coded.is_met.Goals as goal

pub returns : goal.returns
returns c = λ e.
    let a = c.args in
    coded_met a.d a.s a.table.now a.hash.now a.code.now a.known.now c.requires.1 c.requires.0
    a.f a.g c.requires.2 c.requires.3 c.if-known-f.false c.if-known-g.false c.if-known-f-2.false c.if-x-y.false
    (eqb-false _ _ (not-true _ e))
