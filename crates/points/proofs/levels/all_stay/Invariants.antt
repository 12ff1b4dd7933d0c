-- `all_stay` answers `all_stay`. The invariant: the points before k stay in range. Assumes nothing.
use mathlib.Core.Path.{◌≡◌}
use lib.ListN.{drop}
use Rattle.words.specs.Records.{tabulate, part, all_of}
use Rattle.points.specs.Inner.Stay.{stays_in, all_stay}
use Rattle.points.proofs.levels.all_stay.Given as goal

abbrev pub invariant-loop-k : goal.invariant-loop-k
invariant-loop-k l =
    all_stay l.step l.n l.v l.h l.points ≡ all_of (stays_in l.step l.n l.h) (drop l.k (tabulate l.v (λ k. part l.n k l.points)))
