-- The call wing for a host: the array that it lends is long enough for the table. Assumes nothing.
use mathlib.Core.Path.{sym, ◌∙◌}
use native.Mathlib.Omega.{arith}
use Rattle.winged.proofs.Inward.{all_small}
use Rattle.winged.proofs.host.wing_told.Goals as goal

pub wing_in-requires : goal.wing_in-requires
wing_in-requires c = (sym c.is_small.ensures ∙ c.if-is_small.true, omega arith)

pub wing_in-requires-then-is_small-2 : goal.wing_in-requires-then-is_small-2
wing_in-requires-then-is_small-2 c = (sym c.is_small-2.ensures ∙ c.if-is_small-2.true, omega arith)

pub wing_in-requires-then-is_small-3 : goal.wing_in-requires-then-is_small-3
wing_in-requires-then-is_small-3 c = (sym c.is_small-3.ensures ∙ c.if-is_small-3.true, omega arith)

pub wing_in-requires-2 : goal.wing_in-requires-2
wing_in-requires-2 c = (all_small c.args.d c.args.s, omega arith)
