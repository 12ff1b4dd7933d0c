-- The goals that the search leaves. Assumes nothing.
use Rattle.std.proofs.Common.{◌≤◌, not-suc-le-zero, arith}
use Rattle.sweeping.proofs.Filling.{kept-none, kept_then}
use Rattle.sweeping.proofs.PrismWords.{heads_more}
use Rattle.sweeping.proofs.heads.put_heads.Goals as goal

pub loop-k-init : goal.loop-k-init
loop-k-init g c = (kept-none _ _ _, λ q l. absurd (not-suc-le-zero l))

pub put_head-requires : goal.put_head-requires
put_head-requires g c =
    let low : c.loop-k.k ≤ g.row.D = omega arith in
    record {
      ready = c.requires.ready;
      at = (c.requires.at.0, c.requires.at.1, low, c.head_of-x.ensures);
      room = omega (arith, c.requires.room, c.loop-k.invariant.0.outside.same);
    }

pub loop-k-preserved : goal.loop-k-preserved
loop-k-preserved g c = (
  kept_then _ _ _ _ _ c.loop-k.invariant.0 c.put_head.ensures.kept,
  heads_more _ _ _ _ _ c.loop-k.k c.put_head.ensures.kept c.loop-k.invariant.1 c.put_head.ensures.right,
)

pub returns : goal.returns
returns g c = let i = c.loop-k.invariant in record {
  kept = i.0;
  right = λ k l. i.1 k (omega arith);
}
