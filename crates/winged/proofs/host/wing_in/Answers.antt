-- The array is long enough for the table. Assumes nothing.
use mathlib.Core.Path.{ap, ◌∙◌}
use Prim.Native.Nat.{ℕ}
use lib.ListN.{length-replicate}
use Rattle.winged.specs.Inner.Sent.{small_table}
use Rattle.winged.proofs.host.wing_in.Goals as goal

pub wing_bytes-requires : goal.wing_bytes-requires
wing_bytes-requires g c = ap (small_table c.args.d c.args.s) (length-replicate {A = ℕ} g.row.WORDS 0) ∙ c.requires.0
