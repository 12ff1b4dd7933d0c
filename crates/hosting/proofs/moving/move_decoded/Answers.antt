-- `move_decoded` lends move what it decoded. Assumes nothing.
use mathlib.Core.Path.{sym}
use native.Mathlib.Omega.{arith}
use lib.Seq.{length-take-le}
use Rattle.hosting.proofs.FloatLaws.{floats_front}
use Rattle.hosting.proofs.MoveRows.{move_decodes}
use Rattle.hosting.proofs.moving.move_decoded.Goals as goal

pub slice_bounds-move_points-end : goal.slice_bounds-move_points-end
slice_bounds-move_points-end c = sym (length-take-le _ _ (omega arith))

pub returns : goal.returns
returns c =
    let a = c.args in
    let e = c.move_points.ensures in
    let both = move_decodes a.n a.v a.h a.step a.points.now a.out.now _ _ _ (e.answer, e.buffer)
    (floats_front a.points.now _ _ c.decode.ensures) in
    record { answer = both.0; buffer = both.1 }
