-- The sixteen cases of two signs and two turns. Assumes nothing.
use mathlib.Core.Path.{◌≡◌, refl, sym, ap₂, ◌∙◌}
use mathlib.Core.Bool.{Bool, beq, true, false, not}
use Prim.Native.Nat.{◌%◌}
use lib.Dec.{eqb}
use Rattle.simplex.specs.Cell.{times}
use Rattle.simplex.specs.SignWords.{sign_of, sign_word}
use Rattle.simplex.proofs.Signs.{alternating-rest}
use Rattle.soundness.proofs.faces.opposite.Goals as goal

differ : (s t e f : Bool) → not (beq (beq s t) (beq e f)) ≡ not (eqb (sign_word (times e s)) (sign_word (times f t)))
differ true true true true = refl
differ true true true false = refl
differ true true false true = refl
differ true true false false = refl
differ true false true true = refl
differ true false true false = refl
differ true false false true = refl
differ true false false false = refl
differ false true true true = refl
differ false true true false = refl
differ false true false true = refl
differ false true false false = refl
differ false false true true = refl
differ false false true false = refl
differ false false false true = refl
differ false false false false = refl

pub returns : goal.returns
returns c =
    let a = c.args in
    differ (sign_of a.x) (sign_of a.y) (eqb (a.b % 2) 0) (eqb (a.a % 2) 0)
    ∙ sym (ap₂ (λ e f. not (eqb (sign_word (times e (sign_of a.x))) (sign_word (times f (sign_of a.y))))) (alternating-rest a.b)
    (alternating-rest a.a))
