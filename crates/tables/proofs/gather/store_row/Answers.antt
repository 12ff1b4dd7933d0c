-- The part of the rows that is written is the row. Assumes nothing.
use native.Mathlib.Omega.{arith}
use Rattle.std.proofs.lemmas.Slice.{put_mid-paste}
use Rattle.tables.proofs.gather.store_row.Goals as goal

pub returns : goal.returns
returns c = put_mid-paste _ _ _ _ c.args.row 8 c.copy_from_slice.ensures.after (omega arith) (omega arith)
