-- The loop has written the first j wings. Assumes nothing.
use Prim.Native.Nat.{◌+◌}
use lib.ListN.{drop}
use Rattle.words.proofs.Writing.{Left}
use Rattle.wing.specs.Inner.Uploaded.{uploaded_row}
use Rattle.wing.proofs.uploaded.write_cell.Given as goal

abbrev pub invariant-loop-j : goal.invariant-loop-j
invariant-loop-j l =
    let all = uploaded_row l.d l.cells l.table l.p in
    Left l.at all l.initial.uploaded (l.at + l.j) (drop l.j all) l.uploaded
