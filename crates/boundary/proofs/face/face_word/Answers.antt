-- A word of a face's record is its sign word, a vertex, or its material. Assumes nothing.
use mathlib.Core.Path.{◌≡◌, sym, ap, ◌∙◌}
use Prim.Native.Nat.{suc, ◌-◌}
use native.Mathlib.Omega.{arith}
use lib.ListN.{get_or}
use Rattle.records.specs.Layout.{face_words}
use Rattle.boundary.specs.Inner.Walk.{face_at}
use Rattle.boundary.proofs.FaceWords.{word_material, word_vertex}
use Rattle.boundary.proofs.face.face_word.Goals as goal

pub returns-then-j-eq0 : goal.returns-then-j-eq0
returns-then-j-eq0 c = rw c.if-j-eq0.true c.face_sign.ensures

pub returns-then-d-j : goal.returns-then-d-j
returns-then-d-j c =
    let a = c.args in
    let last : suc a.d ≡ a.j = omega arith in
    c.material.ensures ∙ sym (word_material a.d a.s a.table.now a.p c.requires.0 a.a c.requires.1)
    ∙ ap (λ n. get_or (face_words (face_at a.d a.table.now a.p a.a)) n 0) last

pub returns : goal.returns
returns c =
    let a = c.args in
    let j : suc (a.j - 1) ≡ a.j = omega arith in
    c.face_vertex.ensures
    ∙ sym (word_vertex a.d a.s a.table.now a.p c.requires.0 a.a c.requires.1 (a.j - 1) (omega arith))
    ∙ ap (λ n. get_or (face_words (face_at a.d a.table.now a.p a.a)) n 0) j
