-- The loop has written the wings of the first p cells. Assumes nothing.
use mathlib.Core.Path.{◌≡◌}
use Prim.Native.Nat.{◌*◌}
use lib.ListN.{drop}
use Rattle.words.specs.Records.{concat, tabulate}
use Rattle.words.proofs.Writing.{Left}
use Rattle.records.specs.Layout.{wings_size}
use Rattle.wing.specs.Inner.Uploaded.{uploaded_row}
use Rattle.wing.proofs.uploaded.write_uploaded.Given as goal

abbrev pub invariant-loop-p : goal.invariant-loop-p
invariant-loop-p l =
    let all = tabulate l.s (uploaded_row l.d l.cells l.table) in
    (l.size ≡ wings_size l.d) × Left 0 (concat all) l.initial.uploaded (l.p * l.size) (concat (drop l.p all)) l.uploaded
