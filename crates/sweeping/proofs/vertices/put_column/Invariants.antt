-- The loop has put the word in the cells below k. Assumes nothing.
use Rattle.std.proofs.Common.{ℕ, ◌<◌, ◌≤◌}
use Rattle.sweeping.specs.Inner.Filling.{Right, Kept}
use Rattle.sweeping.specs.Inner.SweptWords.{prism_words}
use Rattle.sweeping.proofs.Columns.{column_at}
use Rattle.sweeping.proofs.vertices.put_column.Given as goal

abbrev pub invariant-loop-k : goal.invariant-loop-k
invariant-loop-k g l =
    let words = prism_words g.row.D l.v l.s l.h l.table l.i l.p in
    Kept l.at words l.initial.out l.out × ((q : ℕ) → l.low ≤ q → q < l.k → Right l.at words l.out (column_at g.row.D l.m q))
