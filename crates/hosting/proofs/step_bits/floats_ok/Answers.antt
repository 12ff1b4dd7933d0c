-- `floats_ok` tests three floats. Assumes nothing.
use mathlib.Core.Path.{refl, sym, ◌∙◌}
use Rattle.points.proofs.AllOf.{and_one}
use Rattle.hosting.proofs.step_bits.floats_ok.Goals as goal

pub returns-then-not-bits_in_range : goal.returns-then-not-bits_in_range
returns-then-not-bits_in_range c = rw (sym c.bits_in_range.ensures ∙ c.if-not-bits_in_range.true) refl

pub returns-then-not-bits_in_range-2 : goal.returns-then-not-bits_in_range-2
returns-then-not-bits_in_range-2 c =
    rw (
      sym c.bits_in_range.ensures ∙ c.if-not-bits_in_range.false,
      sym c.bits_in_range-2.ensures ∙ c.if-not-bits_in_range-2.true,
    ) refl

pub returns : goal.returns
returns c =
    rw (
      sym c.bits_in_range.ensures ∙ c.if-not-bits_in_range.false,
      sym c.bits_in_range-2.ensures ∙ c.if-not-bits_in_range-2.false,
      and_one,
    )
    c.bits_in_range-3.ensures
