-- `load` gives a row that begins with the list. Assumes nothing.
use lib.Seq.{take-append_seam}
use Rattle.points.proofs.point.load.Goals as goal

pub returns : goal.returns
returns c = rw c.put.ensures (take-append_seam _ _)
