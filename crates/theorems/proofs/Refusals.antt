-- The refusal examples hold: both sides are computed.
use mathlib.Core.Path.{refl}
use Rattle.theorems.specs.Refusals.{Refusals}
use Rattle.theorems.proofs.Computing.{computing}

pub refusals : Refusals
unfolding computing
refusals =
    record {
      row1 = refl;
      row2 = refl;
      row3 = refl;
      row4 = refl;
      row5 = (refl, refl);
      row6 = (refl, refl);
      row7 = refl;
      row8 = refl;
      row9 = refl;
      row10 = refl;
      row11 = refl;
      row12 = refl;
      row13 = refl;
      row14 = (refl, refl);
      row15 = (refl, refl);
      row17 = (refl, refl);
      row18 = (refl, refl);
      untouched = refl;
      no_further = refl;
    }
