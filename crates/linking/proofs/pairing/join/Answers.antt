-- Two wings set, one after the other. Assumes nothing.
use mathlib.Core.Path.{◌∙◌}
use Rattle.linking.proofs.WingSet.{cells-still}
use Rattle.linking.proofs.pairing.join.Goals as goal

pub returns : goal.returns
returns c =
    let a = c.args in
    record {
      same = cells-still a.d a.s _ _ _ c.set_wing.ensures.cells c.set_wing-2.ensures.cells;
      there = c.set_wing-2.ensures.others a.q a.b c.requires.0.number c.requires.2 c.requires.5 ∙ c.set_wing.ensures.here;
      back = c.set_wing-2.ensures.here;
      rest = λ i j hi hj one two. c.set_wing-2.ensures.others i j hi hj two ∙ c.set_wing.ensures.others i j hi hj one;
    }
