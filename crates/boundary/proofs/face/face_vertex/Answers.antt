-- A vertex of a face is one of the cell before position a, or the next one. Assumes nothing.
use mathlib.Core.Path.{sym, ap, ◌∙◌}
use native.Mathlib.Numerals.{add-one}
use native.Mathlib.Omega.{arith}
use Rattle.records.specs.Inner.Inside.{vertex_in}
use Rattle.boundary.proofs.FaceWords.{face-before, face-behind}
use Rattle.boundary.proofs.face.face_vertex.Goals as goal

pub returns-then-k-a : goal.returns-then-k-a
returns-then-k-a c =
    let a = c.args in
    c.vertex.ensures ∙ sym (face-before a.d a.s a.table.now a.p c.requires.0 a.a c.requires.1 a.k (omega arith))

pub returns : goal.returns
returns c =
    let a = c.args in
    c.vertex-2.ensures ∙ ap (vertex_in a.d a.table.now a.p) (add-one a.k)
    ∙ sym (face-behind a.d a.s a.table.now a.p c.requires.0 a.a c.requires.1 a.k (omega arith))
