-- `beyond` answers whether a vertex is v or above: what is left of the vertices decides. Assumes nothing.
use mathlib.Core.Path.{◌≡◌}
use lib.Dec.{leb}
use lib.ListN.{drop}
use Rattle.words.specs.Records.{any_of}
use Rattle.words.specs.Bytes.{words_from}
use Rattle.file.proofs.cells.beyond.Given as goal

abbrev pub invariant-loop-k : goal.invariant-loop-k
invariant-loop-k l = any_of (λ x. leb l.v x) (words_from l.b l.at l.m) ≡ any_of (λ x. leb l.v x) (drop l.k (words_from l.b l.at l.m))
