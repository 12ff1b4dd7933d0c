-- `writing::put_digit` meets its contract. Assumes nothing.
use Rattle.printing.proofs.writing.put_digit.Goals as goal

pub returns : goal.returns
returns c = rw c.digit_byte.ensures at c.put_byte.ensures
