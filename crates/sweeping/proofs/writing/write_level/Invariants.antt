-- The records of one level. The loop has written those over the first p cells. Assumes nothing.
use Rattle.std.proofs.Common.{drop}
use Rattle.words.specs.Records.{tabulate, concat}
use Rattle.words.proofs.Writing.{Left}
use Rattle.sweeping.specs.Inner.SweptWords.{prism_words}
use Rattle.sweeping.proofs.writing.write_level.Given as goal

abbrev pub invariant-loop-p : goal.invariant-loop-p
invariant-loop-p g l =
    let all = tabulate l.s (prism_words g.row.D l.v l.s l.h l.table l.i) in
    Left l.at (concat all) l.initial.out l.next (concat (drop l.p all)) l.out
