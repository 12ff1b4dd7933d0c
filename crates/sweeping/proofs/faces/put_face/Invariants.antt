-- The loop has put the sides at the first l places. Assumes nothing.
use Rattle.std.proofs.Common.{ℕ, ◌<◌}
use Rattle.sweeping.specs.Inner.Filling.{Right, Kept}
use Rattle.sweeping.specs.Inner.PrismPlaces.{side_at}
use Rattle.sweeping.specs.Inner.SweptWords.{prism_words}
use Rattle.sweeping.proofs.faces.put_face.Given as goal

abbrev pub invariant-loop-l : goal.invariant-loop-l
invariant-loop-l g l =
    let words = prism_words g.row.D l.v l.s l.h l.table l.i l.p in
    Kept l.at words l.initial.out l.out × ((m : ℕ) → m < l.l → Right l.at words l.out (side_at g.row.D l.a m))
