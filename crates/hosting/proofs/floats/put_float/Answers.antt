-- The bytes of the float's bits are copied to their place. Assumes nothing.
use mathlib.Core.Path.{◌∙◌}
use Prim.Native.Nat.{◌+◌, ◌-◌}
use native.Mathlib.Omega.{arith}
use lib.Ieee.{binary64, to_bits}
use Rattle.words.proofs.Writing.{put_part}
use Rattle.points.proofs.Finite.{range_no_nan}
use Rattle.hosting.specs.Floats.{low_bytes}
use Rattle.hosting.proofs.FloatLaws.{low_le}
use Rattle.hosting.proofs.floats.put_float.Goals as goal

pub to_le_bytes-requires : goal.to_le_bytes-requires
to_le_bytes-requires c = range_no_nan _ c.requires.0

pub returns : goal.returns
returns c =
    let bits = to_bits binary64 c.args.x in
    let bytes = c.copy_from_slice.ensures.after ∙ c.to_le_bytes.ensures ∙ low_le bits in
    rw bytes (put_part c.args.at (c.args.at + 8 - c.args.at) (low_bytes 8 bits) c.args.out.now (c.args.at + 8) (omega arith) (omega arith)).content
