-- The goals that the search leaves. Assumes nothing.
use mathlib.Core.Path.{refl}
use native.Mathlib.Omega.{arith}
use lib.Ieee.{nan}
use Rattle.words.proofs.Writing.{left_starts, left_next, left_none, put_first}
use Rattle.points.proofs.point.put.Goals as goal

pub loop-i-init : goal.loop-i-init
loop-i-init c = left_starts 0 _ _ (omega arith)

pub loop-i-preserved : goal.loop-i-preserved
loop-i-preserved c = left_next nan c.args.xs.now c.loop-i.i (omega arith) c.loop-i.invariant _ _ refl refl

pub returns : goal.returns
returns c = put_first (left_none c.args.xs.now c.loop-i.i (omega arith) c.loop-i.invariant)
