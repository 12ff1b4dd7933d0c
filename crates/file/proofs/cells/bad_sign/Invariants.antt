-- `bad_sign` answers row 6: what is left of the sign bytes decides. Assumes nothing.
use mathlib.Core.Path.{◌≡◌}
use mathlib.Core.Bool.{not, ◌||◌}
use lib.Dec.{eqb}
use lib.ListN.{drop}
use Rattle.words.specs.Records.{any_of}
use Rattle.file.specs.File.{sign_bytes}
use Rattle.file.proofs.cells.bad_sign.Given as goal

abbrev pub invariant-loop-p : goal.invariant-loop-p
invariant-loop-p l =
    any_of (λ x. not (eqb x 43 || eqb x 45)) (sign_bytes l.b) ≡ any_of (λ x. not (eqb x 43 || eqb x 45)) (drop l.p (sign_bytes l.b))
