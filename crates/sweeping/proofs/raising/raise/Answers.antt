-- The goals that the search leaves. Assumes nothing.
use Rattle.std.proofs.Common.{arith}
use Rattle.sweeping.proofs.Onward.{going_starts, going_on}
use Rattle.sweeping.proofs.raising.raise.Goals as goal
use Rattle.sweeping.proofs.raising.raise.Goals.{In-loop-j}

pub loop-j-init : goal.loop-j-init
loop-j-init c = going_starts _ _ _

pub loop-j-preserved : goal.loop-j-preserved
loop-j-preserved c =
    going_on _ _ _ _ _ _ c.loop-j-test.true c.requires c.loop-j.invariant c.ahead.ensures

pub returns : goal.returns
returns c =
    let g = c.loop-j.invariant in
    record { outside = g.outside; ahead = λ e l. g.ahead e (omega arith) }
