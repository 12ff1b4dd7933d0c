-- By the place of the word in its record. Assumes nothing.
use Rattle.std.proofs.Common.{suc, refl, arith, le-ltb, lt-ltb}
use Rattle.records.specs.Layout.{wing_place}
use Rattle.sweeping.proofs.raising.step.Goals as goal

pub returns-then-j-lt-VERTICES : goal.returns-then-j-lt-VERTICES
returns-then-j-lt-VERTICES c = rw (lt-ltb c.args.j 2 c.if-j-lt-VERTICES.true) refl

pub returns-then-j-first_wing : goal.returns-then-j-first_wing
returns-then-j-first_wing c =
    let a = c.args in
    rw (le-ltb a.j 2 c.if-j-lt-VERTICES.false, lt-ltb a.j (wing_place (suc a.d) 0) (omega (arith, c.if-j-first_wing.true, c.first_wing.ensures))) refl

pub returns : goal.returns
returns c =
    let a = c.args in
    rw (le-ltb a.j 2 c.if-j-lt-VERTICES.false, le-ltb a.j (wing_place (suc a.d) 0) (omega (arith, c.if-j-first_wing.false, c.first_wing.ensures)))
    refl
