-- What the kernel leaves for the cells tells row 9. Assumes nothing.
use mathlib.Core.Logic.{inl}
use mathlib.Core.Path.{refl, sym, ◌∙◌}
use native.Mathlib.Omega.{arith}
use Rattle.tables.proofs.Faults.{twice_is}
use Rattle.tables.proofs.adjacency.any_repeated.Goals as goal

pub earlier_equal-requires : goal.earlier_equal-requires
earlier_equal-requires c = (
  record { long = c.requires.2; vertices = omega arith; some = omega arith; most = omega arith; start = omega arith; alike = inl refl },
  omega arith,
  c.requires.3,
)

pub any_seen-requires : goal.any_seen-requires
any_seen-requires c = omega arith

pub returns : goal.returns
returns c =
    λ signs made. c.any_seen.ensures ∙ sym (twice_is _ _ _ signs made c.requires.0 c.requires.1 c.requires.2
    c.earlier_equal.new.prev c.earlier_equal.ensures.by_index)
