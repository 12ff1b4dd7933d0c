-- The word written is the wing's. Assumes nothing.
use mathlib.Core.Path.{◌≡◌, ap}
use Prim.Native.Nat.{◌+◌, ◌*◌, ◌≤◌, ◌<◌}
use native.Mathlib.Nat.{mul-le-mul}
use native.Mathlib.Omega.{arith}
use lib.ListN.{length}
use Rattle.records.specs.Layout.{record_size, wing_place}
use Rattle.records.proofs.Parts.{inside}
use Rattle.linking.proofs.WingSet.{cells_same, wing_kept, wing_set}
use Rattle.linking.proofs.setting.set_wing.Goals as goal
use Rattle.linking.proofs.setting.set_wing.Goals.{After-first_wing}

-- its place is within the table
within : (c : After-first_wing) → let a = c.args in
    (a.p * record_size a.d + wing_place a.d a.a < length a.table.now) × (length a.table.now ≤ 73728)
within c =
    let a = c.args in
    let i = c.requires.0 in (
      omega (arith, inside a.s (record_size a.d) a.p (wing_place a.d a.a) i.number (omega (arith, c.requires.1)), i.long),
      omega (arith, i.long, mul-le-mul {n₁ = a.s} {m₁ = record_size a.d} {n₂ = 4096} {m₂ = 18} c.requires.2 (omega (arith, i.dimension))),
    )

same_place : (c : After-first_wing) → let a = c.args in
    a.p * c.record_size.result + (c.first_wing.result + a.a) ≡ a.p * record_size a.d + wing_place a.d a.a
same_place c = omega (arith, ap (λ n. c.args.p * n) c.record_size.ensures, c.first_wing.ensures)

pub overflow_mul-table : goal.overflow_mul-table
overflow_mul-table c =
    let a = c.args in
    let i = c.requires.0 in
    omega (
      arith,
      mul-le-mul {n₁ = a.p} {m₁ = c.record_size.result} {n₂ = 4096} {m₂ = 18} (omega (arith, i.number, c.requires.2))
          (omega (arith, c.record_size.ensures, i.dimension)),
    )

pub overflow_add-table-2 : goal.overflow_add-table-2
overflow_add-table-2 c = omega (arith, within c, same_place c)

pub offset_bounds-table-p : goal.offset_bounds-table-p
offset_bounds-table-p c = omega (arith, within c, same_place c)

pub bounds-table-p : goal.bounds-table-p
bounds-table-p c = omega (arith, within c, same_place c)

pub returns : goal.returns
returns c =
    let a = c.args in
    let i = c.requires.0 in
    let e = same_place (goal.at.returns c).After-first_wing in record {
      cells = rw e (cells_same a.d a.s a.table.now a.p a.a a.x i.long i.number c.requires.1);
      here = rw e (wing_set a.d a.s a.table.now a.p a.a a.x i.long i.number c.requires.1);
      others = rw e (wing_kept a.d a.s a.table.now a.p a.a a.x i.long i.number c.requires.1);
    }
