-- The loop has written the first j words, of those that are to be written. Assumes nothing.
use mathlib.Core.Path.{◌≡◌}
use lib.ListN.{length, take}
use Rattle.words.specs.Inner.Placed.{placed}
use Rattle.tables.specs.Inner.Held.{run}
use Rattle.tables.proofs.table.copy_run.Given as goal

abbrev pub invariant-loop-j : goal.invariant-loop-j
invariant-loop-j l = (length l.table ≡ length l.initial.table)
    × (l.table ≡ placed l.to (take l.j (run l.n l.from l.words)) l.initial.table)
