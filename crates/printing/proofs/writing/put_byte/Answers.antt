-- `writing::put_byte` meets its contract. Assumes nothing.
use borrow.Author.Rules.{rules}
use Rattle.words.proofs.Placed.{placed_one}
use Rattle.printing.proofs.writing.put_byte.Goals as goal

pub returns : goal.returns
returns c = record { place = search rules; content = placed_one c.args.at c.args.b c.args.buf.now (search rules) }
