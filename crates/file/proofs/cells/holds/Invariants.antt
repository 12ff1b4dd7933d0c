-- `holds` answers whether x is among the vertices: what is left of them decides. Assumes nothing.
use mathlib.Core.Path.{◌≡◌}
use lib.Dec.{eqb}
use lib.ListN.{drop}
use Rattle.words.specs.Records.{any_of}
use Rattle.words.specs.Bytes.{words_from}
use Rattle.file.proofs.cells.holds.Given as goal

abbrev pub invariant-loop-k : goal.invariant-loop-k
invariant-loop-k l = any_of (eqb l.x) (words_from l.b l.at l.m) ≡ any_of (eqb l.x) (drop l.k (words_from l.b l.at l.m))
