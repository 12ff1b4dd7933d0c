-- `bad_material` answers whether a material is above the largest: `any_above` does. Assumes nothing.
use Rattle.tables.proofs.gather.bad_material.Goals as goal

pub returns : goal.returns
returns c = c.any_above.ensures
