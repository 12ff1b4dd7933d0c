-- `writing::put_field` meets its contract: a space and the number. Assumes nothing.
use native.Mathlib.Omega.{arith}
use Rattle.words.proofs.Writing.{put_cons}
use Rattle.printing.proofs.writing.put_field.Goals as goal

pub returns : goal.returns
returns c =
    put_cons c.put_byte-start.ensures c.put_number.ensures (omega arith)
