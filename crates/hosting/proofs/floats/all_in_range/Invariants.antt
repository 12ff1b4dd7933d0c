-- `all_in_range` tests the floats: what is left of them decides. Assumes nothing.
use mathlib.Core.Path.{◌≡◌}
use lib.ListN.{drop}
use Rattle.words.specs.Records.{all_of}
use Rattle.points.specs.Step.{in_range}
use Rattle.hosting.specs.Floats.{floats64}
use Rattle.hosting.proofs.floats.all_in_range.Given as goal

abbrev pub invariant-loop-k : goal.invariant-loop-k
invariant-loop-k l = all_of in_range (floats64 l.b) ≡ all_of in_range (drop l.k (floats64 l.b))
