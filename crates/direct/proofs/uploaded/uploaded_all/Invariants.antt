-- The loop has written the wings of the first p cells. Assumes nothing.
use lib.ListN.{drop}
use Rattle.words.specs.Bytes.{bytes_of}
use Rattle.words.specs.Records.{concat, tabulate}
use Rattle.words.proofs.Writing.{Left}
use Rattle.wing.specs.Inner.Uploaded.{uploaded_row}
use Rattle.direct.proofs.uploaded.uploaded_all.Given as goal

abbrev pub invariant-loop-p : goal.invariant-loop-p
invariant-loop-p l =
    let all = tabulate l.s (λ p. bytes_of (uploaded_row l.d l.cells l.table p)) in
    Left 0 (concat all) l.initial.out l.next (concat (drop l.p all)) l.out
