-- `write_cells` stores the cells: in each turn one more of those that are left is stored. Assumes nothing.
use mathlib.Core.List.{map}
use Prim.Native.Nat.{◌*◌}
use lib.ListN.{drop}
use Rattle.words.specs.Records.{concat}
use Rattle.words.proofs.Writing.{Left}
use Rattle.records.specs.Layout.{cell_words}
use Rattle.file.specs.File.{file_cells}
use Rattle.file.specs.Tests.{file_words}
use Rattle.file.proofs.cells.write_cells.Given as goal

abbrev pub invariant-loop-p : goal.invariant-loop-p
invariant-loop-p l =
    Left 0 (file_words l.b) l.initial.out (l.p * l.size) (concat (map cell_words (drop l.p (file_cells l.b)))) l.out
