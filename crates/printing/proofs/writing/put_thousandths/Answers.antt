-- `writing::put_thousandths` meets its contract: sign, whole part, decimals. Assumes nothing.
use mathlib.Core.Path.{◌≡◌}
use Prim.Native.Nat.{◌+◌, ◌/◌}
use native.Mathlib.Omega.{arith}
use lib.ListN.{length}
use Rattle.words.proofs.Writing.{put_then}
use Rattle.printing.specs.Decimal.{digits}
use Rattle.printing.specs.Fields.{minus_text, thousandths_text}
use Rattle.printing.proofs.Bounds.{thousandths-length}
use Rattle.printing.proofs.writing.put_thousandths.Goals as goal
use Rattle.printing.proofs.writing.put_thousandths.Goals.{Start}

-- the lengths of the three pieces
pieces : (c : Start) →
    length (thousandths_text c.args.minus c.args.t) ≡ length (minus_text c.args.minus c.args.t) +
    (length (digits (c.args.t / 1000)) + 4)
pieces c = thousandths-length c.args.minus c.args.t

pub put_minus-start-requires : goal.put_minus-start-requires
put_minus-start-requires c = omega (arith, pieces (goal.at.put_minus-start-requires c).Start)

pub put_number-point-requires : goal.put_number-point-requires
put_number-point-requires c = omega (arith, pieces (goal.at.put_number-point-requires c).Start)

pub put_decimals-requires : goal.put_decimals-requires
put_decimals-requires c = omega (arith, pieces (goal.at.put_decimals-requires c).Start)

pub returns : goal.returns
returns c =
    let known = pieces (goal.at.returns c).Start in
    put_then c.put_minus-start.ensures (put_then c.put_number-point.ensures c.put_decimals.ensures (omega arith)) (omega arith)
