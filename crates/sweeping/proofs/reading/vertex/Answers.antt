-- `vertex` is the table's, as the sweep names it. Assumes nothing.
use Rattle.std.proofs.Common.{sym, ◌∙◌, arith}
use Rattle.sweeping.proofs.TableWords.{solid-vertex}
use Rattle.sweeping.proofs.reading.vertex.Goals as goal

pub returns : goal.returns
returns c =
    let a = c.args in
    c.vertex.ensures ∙ sym (solid-vertex a.d a.s a.table.now a.p (omega arith) a.k)
