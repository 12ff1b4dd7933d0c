-- The loop has put the heads of the first k cells. Assumes nothing.
use Rattle.std.proofs.Common.{ℕ, ◌<◌}
use Rattle.sweeping.specs.Inner.Filling.{Kept}
use Rattle.sweeping.specs.Inner.PrismPlaces.{HeadRight}
use Rattle.sweeping.specs.Inner.SweptWords.{prism_words}
use Rattle.sweeping.proofs.heads.put_heads.Given as goal

abbrev pub invariant-loop-k : goal.invariant-loop-k
invariant-loop-k g l =
    let words = prism_words g.row.D l.v l.s l.h l.table l.i l.p in
    Kept l.at words l.initial.out l.out × ((q : ℕ) → q < l.k → HeadRight g.row.D l.at words l.out q)
