-- The rest of the cell, and then the cells behind it. Assumes nothing.
use mathlib.Core.Path.{refl, sym, ◌∙◌}
use native.Mathlib.Omega.{arith}
use Rattle.boundary.proofs.Walking.{from_next, from_end}
use Rattle.boundary.proofs.walk.next_face.Goals as goal

pub returns-then-p-s : goal.returns-then-p-s
returns-then-p-s c =
    let a = c.args in
    let end = from_end a.d a.s a.table.now a.p in
    record {
      place = record { cell = omega arith; position = λ h. absurd (omega arith); found = λ h. absurd (omega arith); ended = λ h. refl };
      same = end a.a (omega arith) ∙ sym (end 0 (omega arith));
    }

pub returns-then-position-d : goal.returns-then-position-d
returns-then-position-d c =
    let next = c.next_position-position.ensures in
    record {
      place =
          record { cell = omega arith; position = λ h. omega arith; found = λ h. next.found (omega arith); ended = λ h. absurd (omega arith) };
      same = next.same;
    }

pub returns : goal.returns
returns c =
    let a = c.args in
    let behind = from_next a.d a.s a.table.now c.requires.0.long a.p c.next_position-position.result (omega arith) (omega arith) in
    record { place = c.first_face.ensures.place; same = c.next_position-position.ensures.same ∙ behind ∙ c.first_face.ensures.same }
