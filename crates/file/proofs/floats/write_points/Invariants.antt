-- `write_points` stores the points: in each turn one more of those that are left is stored. Assumes nothing.
use lib.ListN.{drop}
use Rattle.words.proofs.Writing.{Left}
use Rattle.file.specs.File.{file_points}
use Rattle.file.proofs.floats.write_points.Given as goal

abbrev pub invariant-loop-k : goal.invariant-loop-k
invariant-loop-k l = Left 0 (file_points l.b) l.initial.out l.k (drop l.k (file_points l.b)) l.out
