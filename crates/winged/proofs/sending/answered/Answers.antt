-- An answer as a number. Assumes nothing.
use mathlib.Core.Path.{sym, ap, ◌∙◌}
use Prim.Native.Nat.{ℕ, ◌<◌, ◌^◌}
use native.Mathlib.Omega.{arith}
use borrow.Author.Rules.{rules}
use lib.IntN.{pos, neg_ℤ}
use mir.Syntax.{w64}
use mir.ValLaws.{to_z_pos, to_z-of_z}
use Rattle.rules.specs.Numbers.{outcome_of}
use Rattle.std.specs.Prelude.{Result}
use Rattle.rules.specs.declared.refusal.Refusal.{Refusal}
use Rattle.winged.specs.Host.{host_answer}
use Rattle.winged.specs.Inner.Sent.{count_of}
use Rattle.winged.proofs.sending.answered.Goals as goal
use Rattle.winged.proofs.sending.answered.Goals.{In-Ok}

small : (c : In-Ok) → c.in-Ok.n < 2 ^ 63
small c = omega (arith, ap (λ (a : Result ℕ Refusal). count_of (outcome_of a)) c.in-Ok.is)

pub overflow_cast-result : goal.overflow_cast-result
overflow_cast-result c = record { sfits = omega (arith, small c) }

pub returns-in-Ok : goal.returns-in-Ok
returns-in-Ok c =
    to_z_pos w64 _ (small (goal.at.returns-in-Ok c).In-Ok)
    ∙ ap (λ (a : Result ℕ Refusal). host_answer (outcome_of a)) (sym c.in-Ok.is)

pub returns-in-Err : goal.returns-in-Err
returns-in-Err c =
    to_z-of_z w64 _ (search rules) ∙ c.minus.ensures ∙ ap (λ k. neg_ℤ (pos k)) c.from.ensures
    ∙ ap (λ (a : Result ℕ Refusal). host_answer (outcome_of a)) (sym c.in-Err.is)
