-- `writing::put_coordinate` meets its contract. Assumes nothing.
use Rattle.printing.specs.Decimal.{coordinate}
use Rattle.printing.proofs.writing.put_coordinate.Goals as goal

pub put_thousandths-requires : goal.put_thousandths-requires
unfolding coordinate
put_thousandths-requires c = rw (c.is_negative.ensures, c.thousandths_of-t.ensures) c.requires.1

pub returns : goal.returns
unfolding coordinate
returns c =
    rw (c.is_negative.ensures, c.thousandths_of-t.ensures) at c.put_thousandths.ensures
