-- A position is even or odd as (-1)^position is plus or minus. Assumes nothing.
use mathlib.Core.Bool.{Bool, false}
use mathlib.Core.Path.{sym, ap, ◌∙◌}
use lib.ListN.{get_or}
use Rattle.simplex.specs.Cell.{times}
use Rattle.simplex.proofs.Signs.{alternating-rest}
use Rattle.tables.proofs.adjacency.face_sign.Goals as goal

pub returns : goal.returns
returns c =
    let a = c.args in
    c.product.ensures ∙ ap (λ (s : Bool). times s (get_or a.signs.now a.p false)) (sym (alternating-rest a.a))
