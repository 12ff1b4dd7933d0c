-- `writing::put_minus` meets its contract. Assumes nothing.
use native.Mathlib.Omega.{arith}
use Rattle.words.proofs.Writing.{put_nothing}
use Rattle.printing.proofs.writing.put_minus.Goals as goal

pub put_byte-requires : goal.put_byte-requires
put_byte-requires c = let h = rw c.if-minus-t.true at c.requires in omega arith

pub returns-then-minus-t : goal.returns-then-minus-t
returns-then-minus-t c = rw c.if-minus-t.true c.put_byte.ensures

pub returns : goal.returns
returns c = rw c.if-minus-t.false (put_nothing _ _)
