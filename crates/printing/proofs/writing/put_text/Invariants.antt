-- `put_text` copies a text: in each turn one more of the bytes that are left is stored. Assumes nothing.
use Prim.Native.Nat.{◌+◌}
use lib.ListN.{drop}
use Rattle.words.proofs.Writing.{Left}
use Rattle.printing.proofs.writing.put_text.Given as goal

abbrev pub invariant-loop-i : goal.invariant-loop-i
invariant-loop-i l = Left l.at l.text l.initial.buf (l.at + l.i) (drop l.i l.text) l.buf
