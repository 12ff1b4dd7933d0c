-- The goals that the search leaves. Assumes nothing.
use Prim.Native.Nat.{ℕ, ◌+◌, ◌≤◌, ◌<◌}
use mathlib.Core.List.{List}
use native.Mathlib.Omega.{arith}
use lib.ListN.{length, drop_of_length-le}
use Rattle.words.proofs.Bytes.{bytes-length}
use Rattle.words.proofs.Records.{tabulate_at}
use Rattle.words.proofs.Writing.{left_starts, left_ends}
use mathlib.Core.Path.{◌≡◌, sym, ◌∙◌}
use Rattle.records.specs.Layout.{wings_size}
use Rattle.wing.specs.Inner.Uploaded.{uploaded_at, uploaded_row}
use Rattle.wing.proofs.UploadedRows.{row-long}
use Rattle.direct.proofs.WordBytes.{bytes_fit, left_copied}
use Rattle.direct.proofs.uploaded.cell_bytes.Goals as goal
use Rattle.direct.proofs.uploaded.cell_bytes.Goals.{After-uploaded_wing-w, Start}

abbrev words : Start → List ℕ
words c = let a = c.args in uploaded_row a.d a.cells.now a.table.now a.p

long : (c : Start) → length (words c) ≡ wings_size c.args.d
long c = let a = c.args in row-long a.d a.cells.now a.table.now a.p

fits : (c : After-uploaded_wing-w) → c.loop-j.next + 2 ≤ length c.loop-j.out
fits c =
    bytes_fit (words (goal.at.After-uploaded_wing-w c).Start) c.loop-j.j (omega (arith, long (goal.at.After-uploaded_wing-w c).Start))
    c.loop-j.invariant

pub loop-j-init : goal.loop-j-init
loop-j-init c =
    left_starts _ _ _
    (omega (arith, c.requires.3, long (goal.at.loop-j-init c).Start, bytes-length (words (goal.at.loop-j-init c).Start)))

pub uploaded_wing-w-requires : goal.uploaded_wing-w-requires
uploaded_wing-w-requires c =
    (c.requires.0, c.requires.1, c.requires.2, omega arith)

pub slice_bounds-copy_from_slice-end : goal.slice_bounds-copy_from_slice-end
slice_bounds-copy_from_slice-end c = fits c

pub loop-j-preserved : goal.loop-j-preserved
loop-j-preserved c =
    let here : c.loop-j.j < length (words (goal.at.loop-j-preserved c).Start) = omega (arith, long (goal.at.loop-j-preserved c).Start) in
    let a = c.args in
    left_copied (words (goal.at.loop-j-preserved c).Start) c.loop-j.j here c.loop-j.invariant c.uploaded_wing-w.result _ _
    (c.uploaded_wing-w.ensures
    ∙ sym (tabulate_at (wings_size a.d) (uploaded_at a.d a.cells.now a.table.now a.p) c.loop-j.j 0 (omega arith)))
    (omega arith) (c.copy_from_slice.ensures.after ∙ c.to_le_bytes.ensures)

pub returns : goal.returns
returns c =
    left_ends (rw (drop_of_length-le (words (goal.at.returns c).Start) {i = c.loop-j.j} (omega (arith, long (goal.at.returns c).Start))) at
    c.loop-j.invariant)
