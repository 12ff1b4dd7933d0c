-- `decode` writes all numbers of the bytes, and no further. Assumes nothing.
use Rattle.words.proofs.Bytes.{words_all, words_count}
use Rattle.words.proofs.Placed.{placed_first}
use Rattle.words.proofs.copy.decode.Goals as goal

pub returns : goal.returns
returns c =
    rw (← words_all c.args.b.now, placed_first, words_count) at c.copy16.ensures
