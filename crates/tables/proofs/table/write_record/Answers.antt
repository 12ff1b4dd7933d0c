-- A record is written in its four parts. Assumes nothing.
use Prim.Native.Nat.{◌+◌, ◌*◌, ◌≤◌}
use native.Mathlib.Nat.{mul-le-mul_right}
use native.Mathlib.Omega.{arith}
use lib.ListN.{set, length-set}
use Rattle.records.specs.Layout.{material_place}
use Rattle.tables.proofs.Filling.{part_room, record_placed}
use Rattle.tables.proofs.table.write_record.Goals as goal
use Rattle.tables.proofs.table.write_record.Goals.{Start}

-- the wings of cell p are among those held
held : (c : Start) → let a = c.args in a.p * (a.d + 1) + (a.d + 1) ≤ 32768
held c = let a = c.args in omega (arith, mul-le-mul_right {m = a.p} {n = 4095} (a.d + 1) (omega arith))

pub overflow_add-k : goal.overflow_add-k
overflow_add-k c = omega arith

pub bounds-signs-p : goal.bounds-signs-p
bounds-signs-p c = omega arith

pub offset_bounds-table-at : goal.offset_bounds-table-at
offset_bounds-table-at c = omega arith

pub bounds-table-at : goal.bounds-table-at
bounds-table-at c = omega arith

pub overflow_add-table : goal.overflow_add-table
overflow_add-table c = omega arith

pub offset_bounds-table-at-2 : goal.offset_bounds-table-at-2
offset_bounds-table-at-2 c = omega arith

pub bounds-table-at-2 : goal.bounds-table-at-2
bounds-table-at-2 c =
    let a = (c.args) in
    omega (arith, length-set a.table.now a.at c.sign_word.result)

pub overflow_mul-p : goal.overflow_mul-p
overflow_mul-p c = omega arith

pub overflow_add-at : goal.overflow_add-at
overflow_add-at c = omega arith

pub copy_run-requires : goal.copy_run-requires
copy_run-requires c =
    let a = (c.args) in
    let one = length-set a.table.now a.at c.sign_word.result in
    let two = length-set (set a.table.now a.at c.sign_word.result) (a.at + material_place) a.material in
    (omega arith, omega arith, omega (arith, one, two))

pub overflow_mul-p-2 : goal.overflow_mul-p-2
overflow_mul-p-2 c = omega (arith, held (goal.at.overflow_mul-p-2 c).Start)

pub overflow_add-at-2 : goal.overflow_add-at-2
overflow_add-at-2 c = omega arith

pub copy_run-requires-2 : goal.copy_run-requires-2
copy_run-requires-2 c =
    let a = c.args in
    let long = part_room _ a.rows.now a.signs.now a.wings.now _ _ _ _ a.table.now _ c.requires.2 c.sign_word.ensures
    c.copy_run.ensures in
    (omega arith, omega (arith, held (goal.at.copy_run-requires-2 c).Start), omega (arith, long, c.first_wing.ensures))

pub returns : goal.returns
returns c =
    record_placed _ _ _ _ _ _ _ _ _ _ c.requires.2 c.sign_word.ensures c.copy_run.ensures _ _
    c.first_wing.ensures c.copy_run-2.ensures
