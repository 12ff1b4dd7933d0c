-- The goals that the search leaves. Assumes nothing.
use native.Mathlib.Omega.{arith}
use lib.Ieee.{nan}
use Rattle.words.proofs.Loops.{all_at}
use Rattle.words.proofs.Writing.{left_starts, left_item, left_item_fits, left_items}
use Rattle.points.specs.Step.{in_range}
use Rattle.printing.specs.Fields.{point_field}
use Rattle.printing.proofs.fields.put_points.Goals as goal

pub loop-point-init : goal.loop-point-init
loop-point-init c = left_starts _ _ _ c.requires.1

pub put_point-cur-requires : goal.put_point-cur-requires
put_point-cur-requires c =
    let points = c.args.points.now in
    let i = c.loop-point.point-index in
    let room = left_item_fits point_field nan points i (omega arith) c.loop-point.invariant in
    (all_at in_range nan points i c.requires.0 (omega arith), room)

pub loop-point-preserved : goal.loop-point-preserved
loop-point-preserved c =
    left_item point_field nan c.args.points.now c.loop-point.point-index (omega arith) c.loop-point.invariant _ _ c.put_point-cur.ensures

pub shape_of-buf : goal.shape_of-buf
shape_of-buf c = c.loop-point.invariant.same

pub returns : goal.returns
returns c = left_items point_field c.args.points.now c.loop-point.point-index (omega arith) c.loop-point.invariant
