-- The loop has made the first j words. Assumes nothing.
use Rattle.std.proofs.Common.{◌≡◌, ℕ, ◌+◌, ◌<◌, length, get_or}
use Rattle.sweeping.specs.Inner.Raising.{Stepped}
use Rattle.sweeping.proofs.raising.stepped_row.Given as goal

abbrev pub invariant-loop-j : goal.invariant-loop-j
invariant-loop-j g l =
    (length l.row ≡ 18) × ((q : ℕ) → q < l.j → Stepped (get_or l.out (l.from + q) 0) (get_or l.steps q 0) (get_or l.row q 0))
