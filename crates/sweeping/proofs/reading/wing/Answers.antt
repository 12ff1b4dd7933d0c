-- `wing` is the table's, as the sweep names it. Assumes nothing.
use Rattle.std.proofs.Common.{sym, ◌∙◌, arith}
use Rattle.sweeping.proofs.TableWords.{solid_wing_lem}
use Rattle.sweeping.proofs.reading.wing.Goals as goal

pub returns : goal.returns
returns c =
    let a = c.args in
    c.wing.ensures ∙ sym (solid_wing_lem a.d a.s a.table.now a.p (omega arith) a.a)
