-- `bad_sign` answers whether a sign word is above 1: `any_above` does. Assumes nothing.
use Rattle.tables.proofs.gather.bad_sign.Goals as goal

pub returns : goal.returns
returns c = c.any_above.ensures
