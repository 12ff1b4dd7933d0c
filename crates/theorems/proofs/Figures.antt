-- The figures hold: both sides are computed.
use mathlib.Core.Path.{refl}
use Rattle.theorems.specs.Figures.{Figures}
use Rattle.theorems.proofs.Computing.{computing}

pub figures : Figures
unfolding computing
figures = record { swept_once = refl; swept-twice = refl }
