-- `writing::put_decimals` meets its contract, byte by byte. Assumes nothing.
use native.Mathlib.Omega.{arith}
use Rattle.words.proofs.Writing.{put_cons}
use Rattle.printing.proofs.writing.put_decimals.Goals as goal

pub returns : goal.returns
returns c =
    let two = put_cons c.put_digit-last.ensures c.put_digit.ensures (omega arith) in
    put_cons c.put_byte-tenths.ensures (put_cons c.put_digit-hundredths.ensures two (omega arith)) (omega arith)
