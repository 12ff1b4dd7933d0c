-- `word64` is the number that the library makes of the 8 bytes. Assumes nothing.
use mathlib.Core.Path.{◌∙◌}
use Rattle.words.proofs.Bytes.{little64}
use Rattle.words.proofs.little.word64.Goals as goal

pub returns : goal.returns
returns c = c.from_le_bytes.ensures ∙ little64 c.args.b.now c.args.at
