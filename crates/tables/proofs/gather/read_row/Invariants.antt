-- The loop has read the first j words, of those that are to be read. Assumes nothing.
use Rattle.tables.proofs.Reading.{Read}
use Rattle.tables.proofs.gather.read_row.Given as goal

abbrev pub invariant-loop-j : goal.invariant-loop-j
invariant-loop-j l = Read l.n l.at l.words l.j l.row
