-- The four tests. Assumes nothing.
use mathlib.Core.Path.{sym, ap, ◌∙◌}
use mathlib.Core.Bool.{false≢true}
use Rattle.simplex.specs.SignWords.{turned_sign}
use Rattle.simplex.proofs.Rows.{same_row_true}
use Rattle.soundness.specs.Inner.Certified.{face_in}
use Rattle.soundness.proofs.FaceRows.{told-apart}
use Rattle.linking.proofs.pairing.is_apt.Goals as goal

pub returns-then-wing : goal.returns-then-wing
returns-then-wing c = λ e. absurd (false≢true e)

pub returns-then-vertex : goal.returns-then-vertex
returns-then-vertex c = λ e. absurd (false≢true e)

pub returns-then-not-opposite : goal.returns-then-not-opposite
returns-then-not-opposite c = λ e. absurd (false≢true e)

pub returns : goal.returns
returns c = λ e.
    let a = c.args in
    record {
      bare = sym c.wing.ensures ∙ c.if-wing.false;
      face = same_row_true (face_in a.d a.table.now a.q a.b) (face_in a.d a.table.now a.p a.a)
          (sym c.same_face.ensures ∙ e);
      apex = λ z. c.if-vertex.false (c.vertex.ensures ∙ z ∙ sym c.vertex-2.ensures);
      opposite = λ z. told-apart _ _ _ c.if-not-opposite.false c.opposite.ensures
          (ap (λ n. turned_sign n a.b) c.sign.ensures ∙ z
          ∙ sym (ap (λ n. turned_sign n a.a) c.sign-2.ensures));
    }
