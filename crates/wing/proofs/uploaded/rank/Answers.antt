-- The goals that the search leaves. Assumes nothing.
use mathlib.Core.Path.{◌∙◌}
use native.Mathlib.Omega.{arith}
use Rattle.wing.proofs.Ranks.{rank_all, rank_behind, rank_over, rank_under}
use Rattle.wing.proofs.uploaded.rank.Goals as goal
use Rattle.wing.proofs.uploaded.rank.Goals.{then-i-n+then-words-at, then-i-n+else-words-at, else-i-n}

pub loop-i-preserved : goal.loop-i-preserved
loop-i-preserved c =
    let l = c.loop-i in
    let a = c.args in
    let under = rank_under _ a.at a.words.now a.x l.i l.r c.requires.1 l.invariant.1 in
    let over = rank_over _ a.at a.words.now a.x l.i l.r c.requires.1 l.invariant.1 in
    let behind = rank_behind _ a.at a.words.now a.x l.i l.r c.requires.1 l.invariant.1 in
    elim c.if-i-n.branch [
      | then-i-n+then-words-at w ↦ (omega (arith, w.r-is), w.r-is ∙ under w.if-i-n.true w.if-words-at.true)
      | then-i-n+else-words-at w ↦ (omega (arith, w.r-is), w.r-is ∙ over w.if-i-n.true w.if-words-at.false)
      | else-i-n w ↦ (omega (arith, w.r-is), w.r-is ∙ behind w.if-i-n.false)
    ]

pub returns : goal.returns
returns c =
    let l = c.loop-i in
    let a = c.args in
    rank_all _ a.at a.words.now _ l.i _ c.requires.1 l.invariant.1 (omega arith)
