-- `head` by version. Assumes nothing.
use mathlib.Core.Path.{refl, sym, ◌∙◌}
use native.Mathlib.Omega.{arith}
use Rattle.file.proofs.numbers.head.Goals as goal

pub returns-then-with_materials : goal.returns-then-with_materials
returns-then-with_materials c = (rw (sym c.with_materials.ensures ∙ c.if-with_materials.true) refl, omega arith)

pub returns : goal.returns
returns c = (rw (sym c.with_materials.ensures ∙ c.if-with_materials.false) refl, omega arith)
