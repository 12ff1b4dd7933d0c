-- `word` reads word j of record p: its index is inside the table. Assumes nothing.
use mathlib.Core.Path.{sym, ap, ◌∙◌}
use Prim.Native.Nat.{◌+◌, ◌*◌, ◌<◌}
use native.Mathlib.Omega.{arith}
use lib.ListN.{length, get_or}
use Rattle.records.specs.Layout.{record_size}
use Rattle.records.proofs.Parts.{inside, part_at}
use Rattle.records.proofs.reading.word.Goals as goal
use Rattle.records.proofs.reading.word.Goals.{After-record_size}

index : (c : After-record_size) → let a = c.args in a.p * c.record_size.result + a.j < length a.table.now
index c =
    let a = c.args in
    rw c.record_size.ensures (omega (arith, inside a.s (record_size a.d) a.p a.j (omega arith) (omega arith)))

pub overflow_mul-result : goal.overflow_mul-result
overflow_mul-result c = omega (arith, index c)

pub overflow_add-result : goal.overflow_add-result
overflow_add-result c = omega (arith, index c)

pub offset_bounds-table-p : goal.offset_bounds-table-p
offset_bounds-table-p c = omega (arith, index c)

pub bounds-table-p : goal.bounds-table-p
bounds-table-p c = index (goal.at.bounds-table-p c).After-record_size

pub returns : goal.returns
returns c =
    let a = c.args in
    ap (λ n. get_or a.table.now (a.p * n + a.j) 0) c.record_size.ensures
    ∙ sym (part_at (record_size a.d) a.p a.j a.table.now 0 (omega arith))
