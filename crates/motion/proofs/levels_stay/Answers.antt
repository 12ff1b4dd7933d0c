-- `levels_stay` tests the levels point by point. Assumes nothing.
use mathlib.Core.Path.{sym, ◌∙◌}
use borrow.Author.Tests.{eqb-true, not-false}
use Rattle.words.specs.Records.{all_of}
use Rattle.rules.proofs.Tests.{and_parts}
use Rattle.points.specs.Step.{in_range, step_floats}
use Rattle.points.proofs.Staying.{levels_stay_lem}
use Rattle.motion.proofs.levels_stay.Goals as goal

pub all_stay-requires : goal.all_stay-requires
all_stay-requires c =
    record {
      n_bound = (c.requires.n_bound.0, not-false _ c.requires.n_bound.2);
      points_len = eqb-true _ _ (not-false _ c.requires.n_bound.1);
    }

pub returns : goal.returns
returns c =
    let a = c.args in
    let ranged = and_parts (all_of in_range (step_floats a.step)) (all_of in_range a.points.now) (not-false _ c.requires.points_value) in
    c.all_stay.ensures ∙ sym (levels_stay_lem a.step a.n a.v a.h a.points.now (eqb-true _ _ (not-false _ c.requires.n_bound.1)) ranged.1)
