-- What is certified is sound. Assumes nothing.
use mathlib.Core.Path.{sym, ap, ◌∙◌}
use Rattle.solids.specs.Table.{sound}
use Rattle.soundness.proofs.is_sound.Goals as goal

-- points
pub returns-then-d-eq0 : goal.returns-then-d-eq0
returns-then-d-eq0 c =
    let a = c.args in
    c.is_sound.ensures ∙ ap (λ d. sound d a.v a.s a.table.now) (sym c.if-d-eq0.true)

pub returns-then-is_certified : goal.returns-then-is_certified
returns-then-is_certified c = sym (c.is_certified.ensures c.if-is_certified.true)
