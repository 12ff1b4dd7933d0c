-- `outside_limits` answers row 2 of the numbers that it reads. Assumes nothing.
use mathlib.Core.Path.{refl, ◌∙◌}
use Rattle.file.proofs.numbers.outside_limits.Goals as goal

pub returns : goal.returns
returns c =
    c.numbers_outside.ensures
    ∙ rw (
      c.dimension-d.ensures.0,
      c.axes-n.ensures.0,
      c.vertex_count-v.ensures.0,
      c.cell_count-s.ensures.0,
      c.steps-h.ensures.0,
      c.byte_at-kind.ensures.0,
    ) refl
