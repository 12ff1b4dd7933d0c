-- The goals that the search leaves. Assumes nothing.
use mathlib.Core.Path.{◌≡◌}
use mathlib.Core.List.{List}
use Prim.Native.Nat.{ℕ, ◌+◌, ◌*◌, ◌≤◌}
use native.Mathlib.Nat.{zero-mul}
use native.Mathlib.Omega.{arith}
use lib.ListN.{length}
use Rattle.words.proofs.Records.{record_next}
use Rattle.words.proofs.Writing.{left_starts, left_record, left_record_fits, left_records}
use Rattle.records.specs.Layout.{wings_size}
use Rattle.wing.specs.Inner.Uploaded.{uploaded_row, uploaded_rows}
use Rattle.wing.proofs.UploadedRows.{row-long, rows_long}
use Rattle.wing.proofs.uploaded.write_uploaded.Goals as goal
use Rattle.wing.proofs.uploaded.write_uploaded.Goals.{In-loop-p, Start}

abbrev rows : Start → ℕ → List ℕ
rows c = let a = c.args in uploaded_row a.d a.cells.now a.table.now

long : (c : In-loop-p) → length (rows (goal.at.In-loop-p c).Start c.loop-p.p) ≡ wings_size c.args.d
long c = row-long c.args.d c.args.cells.now c.args.table.now c.loop-p.p

fits : (c : In-loop-p) → c.loop-p.p * c.wings_size-size.result + wings_size c.args.d ≤ length c.loop-p.uploaded
fits c =
    omega (arith, long c, left_record_fits _ _ (rows (goal.at.In-loop-p c).Start) c.loop-p-test.true c.loop-p.invariant.1)

pub loop-p-init : goal.loop-p-init
loop-p-init c =
    let a = c.args in (
      c.wings_size-size.ensures,
      rw (zero-mul c.wings_size-size.result)
          (left_starts 0 _ a.uploaded.now (omega (arith, c.requires.2, rows_long a.d a.s a.cells.now a.table.now))),
    )

pub overflow_mul-p : goal.overflow_mul-p
overflow_mul-p c = omega (arith, fits (goal.at.overflow_mul-p c).In-loop-p)

pub write_cell-requires : goal.write_cell-requires
write_cell-requires c =
    let t = c.requires.0 in (
      record { dimension = t.dimension; long = t.long; number = c.loop-p-test.true },
      c.requires.1,
      t.cells,
      fits (goal.at.write_cell-requires c).In-loop-p,
    )

pub loop-p-preserved : goal.loop-p-preserved
loop-p-preserved c = (
  c.loop-p.invariant.0,
  left_record _ _ (rows (goal.at.loop-p-preserved c).Start) c.loop-p-test.true c.loop-p.invariant.1 _ _ (record {
    place = omega (arith, record_next c.wings_size-size.result c.loop-p.p, long (goal.at.loop-p-preserved c).In-loop-p, c.loop-p.invariant.0);
    content = c.write_cell.ensures;
  }),
)

pub shape_of-uploaded : goal.shape_of-uploaded
shape_of-uploaded c = c.loop-p.invariant.1.same

pub returns : goal.returns
unfolding uploaded_rows
returns c =
    (left_records c.args.s c.loop-p.p (rows (goal.at.returns c).Start) (omega arith) c.loop-p.invariant.1).content
