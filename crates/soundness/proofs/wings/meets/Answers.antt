-- The five tests of a meeting. Assumes nothing.
use mathlib.Core.Path.{sym, ap, ◌∙◌}
use Rattle.simplex.specs.SignWords.{turned_sign}
use Rattle.simplex.proofs.Rows.{same_row_true}
use Rattle.soundness.specs.Inner.Certified.{face_in}
use Rattle.soundness.proofs.FaceRows.{told-apart}
use Rattle.soundness.proofs.wings.meets.Goals as goal

pub returns : goal.returns
returns c = λ e.
    let a = c.args in
    record {
      there = sym c.wing.ensures ∙ sym c.from.ensures ∙ c.if-from-p.false;
      back = sym c.wing-2.ensures ∙ sym c.from-2.ensures ∙ c.if-from-q.false;
      face = same_row_true (face_in a.d a.table.now a.q a.b) (face_in a.d a.table.now a.p a.a)
          (sym c.same_face.ensures ∙ e);
      apex = λ z. c.if-vertex.false (c.vertex.ensures ∙ z ∙ sym c.vertex-2.ensures);
      opposite = λ z. told-apart _ _ _ c.if-not-opposite.false c.opposite.ensures
          (ap (λ n. turned_sign n a.b) c.sign.ensures ∙ z
          ∙ sym (ap (λ n. turned_sign n a.a) c.sign-2.ensures));
    }
