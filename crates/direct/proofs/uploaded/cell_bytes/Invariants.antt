-- The bytes of a cell's wings, two to a word. Assumes nothing.
use lib.ListN.{drop}
use Rattle.words.specs.Bytes.{bytes_of}
use Rattle.words.proofs.Writing.{Left}
use Rattle.wing.specs.Inner.Uploaded.{uploaded_row}
use Rattle.direct.proofs.uploaded.cell_bytes.Given as goal

abbrev pub invariant-loop-j : goal.invariant-loop-j
invariant-loop-j l =
    let all = uploaded_row l.d l.cells l.table l.p in
    Left l.at (bytes_of all) l.initial.out l.next (bytes_of (drop l.j all)) l.out
