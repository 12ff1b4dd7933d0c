-- The goals that the search leaves. Assumes nothing.
use mathlib.Core.Path.{◌≡◌, sym, ap, ◌∙◌}
use mathlib.Core.List.{List}
use Prim.Native.Nat.{ℕ, ◌*◌}
use native.Mathlib.Omega.{arith}
use lib.ListN.{length}
use Rattle.words.specs.Bytes.{bytes_of}
use Rattle.words.specs.Inner.Placed.{placed}
use Rattle.words.specs.Records.{concat, tabulate}
use Rattle.words.proofs.Bytes.{bytes-length}
use Rattle.words.proofs.Writing.{left_starts, left_record, left_record_fits, left_records}
use Rattle.records.specs.Layout.{wings_length}
use Rattle.wing.specs.Inner.Uploaded.{uploaded_row, uploaded_rows}
use Rattle.wing.proofs.UploadedRows.{row-long, rows_long}
use Rattle.direct.proofs.WordBytes.{bytes-concat}
use Rattle.direct.proofs.uploaded.uploaded_all.Goals as goal
use Rattle.direct.proofs.uploaded.uploaded_all.Goals.{Start}

abbrev rows : Start → ℕ → List ℕ
rows c p = let a = c.args in bytes_of (uploaded_row a.d a.cells.now a.table.now p)

-- all of them are the bytes of the words
all-bytes : (c : Start) → let a = c.args in
    bytes_of (concat (tabulate a.s (uploaded_row a.d a.cells.now a.table.now))) ≡ concat (tabulate a.s (rows c))
all-bytes c = let a = c.args in bytes-concat a.s (uploaded_row a.d a.cells.now a.table.now)

all_long : (c : Start) → length (concat (tabulate c.args.s (rows c))) ≡ wings_length c.args.d c.args.s * 2
all_long c =
    let a = c.args in
    let words = concat (tabulate a.s (uploaded_row a.d a.cells.now a.table.now)) in
    omega (arith, ap length (all-bytes c), bytes-length words, rows_long a.d a.s a.cells.now a.table.now)

pub loop-p-init : goal.loop-p-init
loop-p-init c =
    left_starts 0 _ c.args.out.now (omega (arith, c.requires.2, all_long (goal.at.loop-p-init c).Start))

pub cell_bytes-next-requires : goal.cell_bytes-next-requires
cell_bytes-next-requires c =
    let a = c.args in
    let t = c.requires.0 in
    let row = uploaded_row a.d a.cells.now a.table.now c.loop-p.p in
    let long = row-long a.d a.cells.now a.table.now c.loop-p.p in (
      record { dimension = t.dimension; long = t.long; number = c.loop-p-test.true },
      c.requires.1,
      t.cells,
      omega (
        arith,
        long,
        bytes-length row,
        left_record_fits _ _ (rows (goal.at.cell_bytes-next-requires c).Start) c.loop-p-test.true c.loop-p.invariant,
      ),
    )

pub loop-p-preserved : goal.loop-p-preserved
loop-p-preserved c =
    left_record _ _ (rows (goal.at.loop-p-preserved c).Start) c.loop-p-test.true c.loop-p.invariant _ _ c.cell_bytes-next.ensures

pub shape_of-out : goal.shape_of-out
shape_of-out c = c.loop-p.invariant.same

pub returns : goal.returns
unfolding uploaded_rows
returns c =
    (left_records c.args.s c.loop-p.p (rows (goal.at.returns c).Start) (omega arith) c.loop-p.invariant).content
    ∙ ap (λ (xs : List ℕ). placed 0 xs c.args.out.now) (sym (all-bytes (goal.at.returns c).Start))
