-- The loop has written the first p records. Assumes nothing.
use Prim.Native.Nat.{◌*◌}
use lib.ListN.{drop}
use Rattle.words.specs.Records.{concat, tabulate}
use Rattle.words.proofs.Writing.{Left}
use Rattle.tables.specs.Inner.Held.{material_at}
use Rattle.records.specs.Layout.{list_size, record_size}
use Rattle.tables.proofs.Filling.{records}
use Rattle.tables.proofs.table.fill.Given as goal

abbrev pub invariant-loop-p : goal.invariant-loop-p
invariant-loop-p l =
    let all = tabulate l.s (records l.d l.rows l.signs (material_at (list_size l.d) l.cells) l.wings l.s) in
    Left 0 (concat all) l.initial.table (l.p * record_size l.d) (concat (drop l.p all)) l.table
