-- The goals that the search leaves. Assumes nothing.
use Prim.Native.Nat.{ℕ}
use native.Mathlib.Nat.{add-zero}
use native.Mathlib.Omega.{arith}
use Rattle.words.proofs.Writing.{left_starts, left_value, left_values}
use Rattle.records.specs.Layout.{wings_size}
use Rattle.wing.specs.Inner.Uploaded.{uploaded_at}
use Rattle.wing.proofs.UploadedRows.{row-long}
use Rattle.wing.proofs.uploaded.write_cell.Goals as goal
use Rattle.wing.proofs.uploaded.write_cell.Goals.{Start}

abbrev wings : Start → ℕ → ℕ
wings s = let a = s.args in uploaded_at a.d a.cells.now a.table.now a.p

pub loop-j-init : goal.loop-j-init
loop-j-init c =
    let a = c.args in
    rw add-zero (left_starts a.at _ a.uploaded.now (omega (arith, c.requires.3, row-long a.d a.cells.now a.table.now a.p)))

pub returns-then-d-j : goal.returns-then-d-j
returns-then-d-j c =
    (left_values (wings_size c.args.d) c.loop-j.j (wings (goal.at.returns-then-d-j c).Start) c.if-d-j.true c.loop-j.invariant).content

pub uploaded_wing-requires : goal.uploaded_wing-requires
uploaded_wing-requires c =
    (c.requires.0, c.requires.1, c.requires.2, omega arith)

pub loop-j-preserved : goal.loop-j-preserved
loop-j-preserved c =
    left_value (wings_size c.args.d) c.loop-j.j (wings (goal.at.loop-j-preserved c).Start) _ _ (omega arith) c.loop-j.invariant
    c.uploaded_wing.ensures (omega arith)

pub returns : goal.returns
returns c =
    let all = wings (goal.at.returns c).Start in
    (left_values (wings_size c.args.d) c.loop-j.j all (omega (arith, c.requires.0.dimension)) c.loop-j.invariant).content
