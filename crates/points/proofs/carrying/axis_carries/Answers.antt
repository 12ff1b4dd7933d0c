-- `axis_carries` answers `axis_carries`: where the points are flat, the sums of the first one decide. Assumes nothing.
use mathlib.Core.Path.{sym, ap, ◌∙◌}
use mathlib.Core.Bool.{◌&&◌}
use native.Mathlib.Omega.{arith}
use Rattle.words.proofs.Records.{record_fits}
use Rattle.points.specs.Carrying.{first}
use Rattle.points.specs.Inner.Sums.{column, climbs}
use Rattle.points.proofs.Adding.{column-first}
use Rattle.points.proofs.carrying.axis_carries.Goals as goal

pub returns-then-not-flat : goal.returns-then-not-flat
returns-then-not-flat c = let uneven = sym c.flat.ensures ∙ c.if-not-flat.true in sym (rw uneven)

pub bounds-points-a : goal.bounds-points-a
bounds-points-a c =
    omega (arith, record_fits c.args.n c.args.v 0 c.requires.2)

pub returns : goal.returns
returns c =
    let a = c.args in
    let even = sym c.flat.ensures ∙ c.if-not-flat.false in
    let values = column a.n a.v a.a a.points.now in
    c.climbs.ensures
    ∙ ap (climbs a.amount a.h) (sym (column-first a.n a.v a.a a.points.now c.requires.1 c.requires.2))
    ∙ ap (λ b. b && climbs a.amount a.h (first values)) (sym even)
