-- `points_in_range` tests the points: what is left of them decides. Assumes nothing.
use mathlib.Core.Path.{◌≡◌}
use lib.ListN.{drop}
use Rattle.words.specs.Records.{all_of}
use Rattle.points.specs.Step.{in_range}
use Rattle.file.specs.File.{file_points}
use Rattle.file.proofs.floats.points_in_range.Given as goal

abbrev pub invariant-loop-k : goal.invariant-loop-k
invariant-loop-k l = all_of in_range (file_points l.b) ≡ all_of in_range (drop l.k (file_points l.b))
