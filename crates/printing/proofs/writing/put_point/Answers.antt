-- `writing::put_point` meets its contract: a space and the coordinate. Assumes nothing.
use native.Mathlib.Omega.{arith}
use Rattle.words.proofs.Writing.{put_cons}
use Rattle.printing.proofs.writing.put_point.Goals as goal

pub returns : goal.returns
returns c =
    put_cons c.put_byte-first.ensures c.put_coordinate.ensures (omega arith)
