-- A cell with a face on the boundary, and its first position there; or there is none. Assumes nothing.
use mathlib.Core.Path.{refl, ◌∙◌}
use native.Mathlib.Omega.{arith}
use Rattle.boundary.proofs.Walking.{position-found}
use Rattle.boundary.proofs.walk.first_face.Goals as goal

pub returns-then-cell-s : goal.returns-then-cell-s
returns-then-cell-s c =
    let cell = c.next_cell-cell.ensures in
    let next = c.next_position-position.ensures in
    let here = position-found c.requires.0.long c.if-cell-s.true (cell.found c.if-cell-s.true) next in
    record {
      place = record { cell = cell.cell; position = λ h. here; found = λ h. next.found here; ended = λ h. absurd (omega arith) };
      same = cell.same ∙ next.same;
    }

pub returns : goal.returns
returns c =
    let cell = c.next_cell-cell.ensures in
    record {
      place = record { cell = cell.cell; position = λ h. absurd (omega arith); found = λ h. absurd (omega arith); ended = λ h. refl };
      same = cell.same;
    }
