-- The goals that the search leaves. Assumes nothing.
use mathlib.Core.Path.{◌≡◌, sym, ◌∙◌}
use Prim.Native.Nat.{◌≤◌}
use native.Mathlib.Omega.{arith}
use borrow.Author.Count.{below_more}
use mathlib.Core.Bool.{true}
use Rattle.simplex.specs.Cell.{same_row}
use Rattle.soundness.specs.Inner.Certified.{face_in, row_in}
use Rattle.soundness.proofs.FaceRows.{left_at, rows_differ, rows_same, size_in}
use Rattle.soundness.proofs.faces.same_face.Goals as goal
use Rattle.soundness.proofs.faces.same_face.Goals.{At-loop-j}

-- the vertices passed are all
all_same : (c : At-loop-j) → let a = c.args in a.d ≤ c.loop-j.j →
    same_row (face_in a.d a.table.now a.p a.a) (face_in a.d a.table.now a.q a.b) ≡ true
all_same c l =
    let a = c.args in
    rows_same a.d a.a a.b (row_in a.d a.table.now a.p) (row_in a.d a.table.now a.q)
    (size_in a.d a.s a.p a.table.now c.requires.0) (size_in a.d a.s a.q a.table.now c.requires.1)
    c.requires.2 c.requires.3 (λ i h. c.loop-j.invariant.1 i (omega arith))

pub returns-then-d-j : goal.returns-then-d-j
returns-then-d-j c = sym (all_same (goal.at.returns-then-d-j c).At-loop-j c.if-d-j.true)

pub returns-then-x-y : goal.returns-then-x-y
returns-then-x-y c =
    let a = c.args in
    sym
    (rows_differ a.d a.a a.b (row_in a.d a.table.now a.p) (row_in a.d a.table.now a.q)
    (size_in a.d a.s a.p a.table.now c.requires.0)
    (size_in a.d a.s a.q a.table.now c.requires.1) c.requires.2 c.requires.3 _ _ _ c.stands.ensures.0 c.stands-in-loop-j.ensures.0
    (λ e. c.if-x-y.true (c.vertex-x.ensures ∙ e ∙ sym c.vertex-y.ensures)))

pub loop-j-preserved : goal.loop-j-preserved
loop-j-preserved c =
    let a = c.args in (
      omega (arith, c.if-d-j.false),
      below_more _ _ c.loop-j.invariant.1
          (left_at (row_in a.d a.table.now a.p) a.a _ _ c.stands.ensures.0 ∙ sym c.vertex-x.ensures ∙ c.if-x-y.false
          ∙ c.vertex-y.ensures ∙ sym (left_at (row_in a.d a.table.now a.q) a.b _ _ c.stands-in-loop-j.ensures.0)),
    )

pub returns : goal.returns
returns c =
    let h = c.requires.0.dimension in
    sym (all_same (goal.at.returns c).At-loop-j (omega (arith, h, c.loop-j-test.false)))
