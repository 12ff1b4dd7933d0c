-- `repeated` answers `repeats`: what is left of the vertices decides. Assumes nothing.
use mathlib.Core.Path.{◌≡◌}
use lib.ListN.{drop}
use Rattle.words.specs.Bytes.{words_from}
use Rattle.solids.specs.Accept.{repeats}
use Rattle.file.proofs.cells.repeated.Given as goal

abbrev pub invariant-loop-k : goal.invariant-loop-k
invariant-loop-k l = repeats (words_from l.b l.at l.m) ≡ repeats (drop l.k (words_from l.b l.at l.m))
