-- The goals that the search leaves. Assumes nothing.
use Rattle.std.proofs.Common.{◌≡◌, ℕ, refl, ◌∙◌, not-suc-le-zero, arith, length-set}
use Rattle.sweeping.specs.Inner.Raising.{step_of}
use Rattle.sweeping.proofs.Stepping.{set_here}
use Rattle.sweeping.proofs.raising.steps.Goals as goal

pub loop-j-init : goal.loop-j-init
loop-j-init c = (refl, λ q l. absurd (not-suc-le-zero l))

pub loop-j-preserved : goal.loop-j-preserved
loop-j-preserved c =
    let a = c.args in (
      length-set {A = ℕ} c.loop-j.all c.loop-j.j _ ∙ c.loop-j.invariant.0,
      set_here (λ q w. w ≡ step_of a.d a.v a.c q) c.loop-j.all c.loop-j.j _ (omega (arith, c.loop-j-test.true, c.loop-j.invariant.0))
          c.loop-j.invariant.1 c.step.ensures,
    )

pub returns : goal.returns
returns c = λ j l. c.loop-j.invariant.1 j (omega (arith, c.loop-j-test.false))
