-- The goals that the search leaves. Assumes nothing.
use mathlib.Core.Path.{refl}
use Prim.Native.Nat.{◌+◌}
use native.Mathlib.Omega.{arith}
use lib.Ieee.{nan}
use Rattle.words.proofs.Loops.{all_at}
use Rattle.words.proofs.Writing.{left_starts, left_next, left_none, put_first}
use Rattle.points.specs.Step.{in_range}
use Rattle.file.specs.File.{file_points}
use Rattle.file.proofs.Parts.{points-length, point_at}
use Rattle.file.proofs.floats.write_points.Goals as goal

pub loop-k-init : goal.loop-k-init
loop-k-init c = left_starts 0 _ _ (omega (arith, points-length c.args.b.now))

pub float_at-requires : goal.float_at-requires
float_at-requires c =
    let b = c.args.b.now in
    let k = c.loop-k.k in
    (omega arith, cc (point_at b k (omega arith), all_at in_range nan (file_points b) k c.requires.1 (omega (arith, points-length b))))

pub loop-k-preserved : goal.loop-k-preserved
loop-k-preserved c =
    let b = c.args.b.now in
    let k = c.loop-k.k in
    left_next nan (file_points b) k (omega (arith, points-length b)) c.loop-k.invariant (k + 1) _ (cc (point_at b k (omega arith)))
    refl

pub returns : goal.returns
returns c =
    let b = c.args.b.now in
    put_first (left_none (file_points b) c.loop-k.k (omega (arith, points-length b)) c.loop-k.invariant)
