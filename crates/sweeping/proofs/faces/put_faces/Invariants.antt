-- The loop has put the sides over the first a faces. Assumes nothing.
use Rattle.std.proofs.Common.{ℕ, ◌<◌}
use Rattle.sweeping.specs.Inner.Filling.{Right, Kept}
use Rattle.sweeping.specs.Inner.PrismPlaces.{side_at}
use Rattle.sweeping.specs.Inner.SweptWords.{prism_words}
use Rattle.sweeping.proofs.faces.put_faces.Given as goal

abbrev pub invariant-loop-a : goal.invariant-loop-a
invariant-loop-a g l =
    let words = prism_words g.row.D l.v l.s l.h l.table l.i l.p in
    Kept l.at words l.initial.out l.out × ((m b : ℕ) → m < g.row.D → b < l.a → Right l.at words l.out (side_at g.row.D b m))
