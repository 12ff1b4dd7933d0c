-- `Shape::new` answers `shape_of`. Assumes nothing.
use mathlib.Core.Path.{◌≡◌}
use mathlib.Core.Bool.{true, false}
use Rattle.rules.specs.Shapes.{shape_of, shape_ok}
use Rattle.rules.proofs.limits.Shape.new.Goals as goal

pub returns-then-within : goal.returns-then-within
unfolding shape_of
returns-then-within c =
    let a = c.args in
    let e : shape_ok a.top a.d a.v a.s ≡ true = cc in
    rw e

pub returns : goal.returns
unfolding shape_of
returns c =
    let a = c.args in
    let e : shape_ok a.top a.d a.v a.s ≡ false = cc in
    rw e
