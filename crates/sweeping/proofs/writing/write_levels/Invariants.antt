-- All levels. The loop has written the first i of them. Assumes nothing.
use Rattle.std.proofs.Common.{◌*◌, drop}
use Rattle.words.specs.Records.{tabulate, concat}
use Rattle.words.proofs.Writing.{Left}
use Rattle.sweeping.specs.Inner.SweptWords.{level_words}
use Rattle.sweeping.proofs.writing.write_levels.Given as goal

abbrev pub invariant-loop-i : goal.invariant-loop-i
invariant-loop-i g l =
    let all = tabulate l.h (level_words g.row.D l.v l.s l.h l.table) in
    Left 0 (concat all) l.initial.out (l.i * l.n) (concat (drop l.i all)) l.out
