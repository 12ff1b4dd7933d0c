-- The goals that the search leaves. Assumes nothing.
use Prim.Native.Nat.{◌+◌, ◌*◌}
use native.Mathlib.Omega.{arith}
use lib.Ieee.{Float, nan, binary64, to_bits}
use lib.ListN.{get_or}
use Rattle.words.proofs.Loops.{all_at}
use Rattle.words.proofs.Writing.{left_starts, left_item, left_items, put_first}
use Rattle.points.specs.Step.{in_range}
use Rattle.hosting.specs.Floats.{low_bytes, float_bytes}
use Rattle.hosting.proofs.FloatLaws.{low-length, float_bytes-length}
use Rattle.hosting.proofs.floats.encode.Goals as goal

pub loop-k-init : goal.loop-k-init
loop-k-init c = left_starts _ _ _ (omega (arith, float_bytes-length c.args.xs.now, c.requires.1))

pub put_float-requires : goal.put_float-requires
put_float-requires c =
    (all_at in_range nan c.args.xs.now c.loop-k.k c.requires.0 (omega arith), omega arith)

pub loop-k-preserved : goal.loop-k-preserved
unfolding float_bytes
loop-k-preserved c =
    let l = c.loop-k in
    let xs = c.args.xs.now in
    left_item (λ (x : Float). low_bytes 8 (to_bits binary64 x)) nan xs l.k (omega arith) l.invariant ((l.k + 1) * 8) _
    (record { place = omega (arith, low-length 8 (to_bits binary64 (get_or xs l.k nan))); content = c.put_float.ensures })

pub returns : goal.returns
unfolding float_bytes
returns c =
    let l = c.loop-k in
    put_first (left_items (λ (x : Float). low_bytes 8 (to_bits binary64 x)) c.args.xs.now l.k (omega arith) l.invariant)
