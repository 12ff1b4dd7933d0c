-- The sign word of a face is the cell's, turned over. Assumes nothing.
use mathlib.Core.Path.{ap, ◌∙◌}
use Rattle.simplex.specs.SignWords.{turned_sign}
use Rattle.boundary.proofs.FaceWords.{face-sign}
use Rattle.boundary.proofs.face.face_sign.Goals as goal

pub returns : goal.returns
returns c =
    let a = c.args in
    c.turned.ensures ∙ ap (λ w. turned_sign w a.a) c.sign.ensures
    ∙ face-sign a.d a.s a.table.now a.p c.requires.0 a.a c.requires.1
