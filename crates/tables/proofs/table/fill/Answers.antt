-- The goals that the search leaves. Assumes nothing.
use mathlib.Core.Path.{◌≡◌, ap, ◌∙◌}
use mathlib.Core.List.{List}
use Prim.Native.Nat.{ℕ, ◌+◌, ◌*◌, ◌≤◌, ◌<◌}
use native.Mathlib.Nat.{zero-mul}
use native.Mathlib.Omega.{arith}
use lib.ListN.{length, get_or}
use Rattle.words.specs.Inner.Placed.{placed}
use Rattle.words.proofs.Records.{record_next}
use Rattle.words.proofs.Writing.{left_starts, left_record, left_record_fits, left_records}
use Rattle.tables.specs.Inner.Held.{held_words, material_at, record_held}
use Rattle.records.specs.Layout.{list_size, material_place, record_size}
use Rattle.records.proofs.Parts.{inside}
use Rattle.tables.proofs.Filling.{record_long, records, records_length}
use Rattle.tables.proofs.table.fill.Goals as goal
use Rattle.tables.proofs.table.fill.Goals.{In-loop-p, Start}

abbrev held : Start → ℕ → List ℕ
held c = let a = c.args in records a.d a.rows.now a.signs.now (material_at (list_size a.d) a.cells.now) a.wings.now a.s

-- record p has its length
long : (c : In-loop-p) → length (held (goal.at.In-loop-p c).Start c.loop-p.p) ≡ record_size c.args.d
long c =
    record_long c.args.d _ _ _ _ c.loop-p.p

-- where it begins
start : (c : In-loop-p) → c.loop-p.p * c.record_size-size.result ≡ c.loop-p.p * record_size c.args.d
start c = ap (λ n. c.loop-p.p * n) c.record_size-size.ensures

-- it has room
fits : (c : In-loop-p) → c.loop-p.p * c.record_size-size.result + record_size c.args.d ≤ length c.loop-p.table
fits c =
    omega (arith, start c, long c, left_record_fits _ _ (held (goal.at.In-loop-p c).Start) c.loop-p-test.true c.loop-p.invariant)

-- its material is among the words of the list
made : (c : In-loop-p) → (c.loop-p.p * c.list_size-part.result + material_place < length c.args.cells.now)
    × (c.loop-p.p * c.list_size-part.result ≡ c.loop-p.p * list_size c.args.d)
made c =
    let a = c.args in
    let e = ap (λ n. c.loop-p.p * n) c.list_size-part.ensures in
    (omega (arith, e, c.requires.2, inside a.s (list_size a.d) c.loop-p.p material_place c.loop-p-test.true (omega arith)), e)

pub loop-p-init : goal.loop-p-init
loop-p-init c =
    let a = c.args in
    rw (zero-mul (record_size a.d)) (left_starts 0 _ a.table.now
    (omega (
      arith,
      c.requires.3,
      records_length a.d a.rows.now a.signs.now (material_at (list_size a.d) a.cells.now) a.wings.now a.s,
    )))

pub overflow_mul-material : goal.overflow_mul-material
overflow_mul-material c = omega (arith, (made c).0)

pub overflow_add-material : goal.overflow_add-material
overflow_add-material c = omega (arith, (made c).0)

pub offset_bounds-cells-p : goal.offset_bounds-cells-p
offset_bounds-cells-p c = omega (arith, (made c).0)

pub bounds-cells-p : goal.bounds-cells-p
bounds-cells-p c = (made (goal.at.bounds-cells-p c).In-loop-p).0

pub overflow_mul-p : goal.overflow_mul-p
overflow_mul-p c = omega (arith, fits (goal.at.overflow_mul-p c).In-loop-p)

pub write_record-requires : goal.write_record-requires
write_record-requires c = (omega arith, omega arith, omega (arith, fits (goal.at.write_record-requires c).In-loop-p))

pub loop-p-preserved : goal.loop-p-preserved
loop-p-preserved c =
    let a = c.args in
    left_record _ _ (held (goal.at.loop-p-preserved c).Start) c.loop-p-test.true c.loop-p.invariant _ _
    (record {
      place = omega (arith, long (goal.at.loop-p-preserved c).In-loop-p, record_next (record_size a.d) c.loop-p.p);
      content = c.write_record.ensures
          ∙ ap (λ (at : ℕ). placed at (record_held a.d a.rows.now a.signs.now a.wings.now
          (get_or a.cells.now (c.loop-p.p * c.list_size-part.result + material_place) 0) c.loop-p.p) c.loop-p.table)
          (start (goal.at.loop-p-preserved c).In-loop-p)
          ∙ ap (λ (i : ℕ). placed (c.loop-p.p * record_size a.d) (record_held a.d a.rows.now a.signs.now a.wings.now
          (get_or a.cells.now (i + material_place) 0) c.loop-p.p) c.loop-p.table) (made (goal.at.loop-p-preserved c).In-loop-p).1;
    })

pub returns : goal.returns
unfolding held_words
returns c =
    (left_records c.args.s c.loop-p.p (held (goal.at.returns c).Start) (omega arith) c.loop-p.invariant).content
