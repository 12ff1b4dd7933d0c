-- `lengths::minus_len` meets its contract. Assumes nothing.
use Rattle.printing.proofs.lengths.minus_len.Goals as goal

pub returns-then-minus-t : goal.returns-then-minus-t
returns-then-minus-t c = simp c.if-minus-t.true

pub returns : goal.returns
returns c = simp c.if-minus-t.false
