-- Lists of signed cells compared, list order aside.
--   same_none         what is equal to the empty list is empty
-- Assumes nothing.
use mathlib.Core.Path.{◌≡◌, refl, ap, ap₂}
use mathlib.Core.Bool.{◌&&◌}
use mathlib.Core.List.{List, [], ◌∷◌}
use native.Mathlib.Omega.{arith}
use borrow.Author.Tests.{eq-eqb}
use Rattle.simplex.specs.Cell.{Cell, one}
use Rattle.simplex.specs.Chain.{Same}
use Rattle.simplex.proofs.Rows.{same_row_refl}
use Rattle.simplex.proofs.Signs.{times_self}

pub same_none : (cs : List Cell) → Same cs [] → cs ≡ []
same_none [] e = refl
same_none (c ∷ cs) e =
    let one-there = rw (eq-eqb c.material c.material refl) at (e c.material c.sign c.row) in
    absurd (omega (arith, one-there, ap one (ap₂ ◌&&◌ (times_self c.sign) (same_row_refl c.row))))
