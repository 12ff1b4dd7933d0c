-- The goals that the search leaves. Assumes nothing.
use native.Mathlib.Omega.{arith}
use Rattle.tables.proofs.Reading.{read_all, read_more, read_no_more, read_none}
use Rattle.tables.proofs.gather.read_row.Goals as goal
use Rattle.tables.proofs.gather.read_row.Goals.{then-j-n, else-j-n}

pub loop-j-init : goal.loop-j-init
loop-j-init c = read_none _ c.args.at c.args.words.now

pub loop-j-preserved : goal.loop-j-preserved
loop-j-preserved c =
    let l = c.loop-j in
    let a = c.args in
    elim c.if-j-n.branch [
      | then-j-n w ↦ read_more _ a.at a.words.now _ l.row c.if-j-n.row l.invariant c.loop-j-test.true w.if-j-n.true w.row-is
      | else-j-n w ↦ read_no_more _ a.at a.words.now _ l.row c.if-j-n.row l.invariant w.if-j-n.false w.row-is
    ]

pub returns : goal.returns
returns c =
    let l = c.loop-j in
    (l.invariant.0, read_all _ _ _ _ _ l.invariant (omega arith) c.requires.0 c.requires.1)
