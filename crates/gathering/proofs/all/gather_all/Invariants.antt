-- The loop has written the first p records, and its answer is that of their cells. Assumes nothing.
use mathlib.Core.Path.{◌≡◌}
use mathlib.Core.Bool.{not, true}
use Prim.Native.Nat.{ℕ, ◌*◌, ◌≤◌, ◌<◌}
use lib.Dec.{eqb}
use lib.ListN.{drop, get_or}
use Rattle.words.specs.Records.{concat, part, tabulate}
use Rattle.words.proofs.Writing.{Left}
use Rattle.records.specs.Layout.{list_size, record_size}
use Rattle.gathering.specs.Inner.Gathering.{FineCell}
use Rattle.gathering.proofs.BlankTables.{blank_record}
use Rattle.gathering.proofs.all.gather_all.Given as goal

abbrev pub invariant-loop-p : goal.invariant-loop-p
invariant-loop-p g l =
    let all = tabulate l.s (blank_record l.d l.cells) in
    Left 0 (concat all) l.initial.table (l.p * record_size l.d) (concat (drop l.p all)) l.table
    × (l.good ≡ true → (q : ℕ) → q < l.p →
    (not (eqb g.row.TESTED 0) ≡ true → FineCell l.d l.v l.cells q) × (get_or (part (list_size l.d) q l.cells) 0 0 ≤ 1))
