-- The goals that the search leaves. Assumes nothing.
use Rattle.std.proofs.Common.{ℕ, ◌+◌, ◌<◌, length, get_or, refl, ◌∙◌, not-suc-le-zero, arith, length-set}
use Rattle.sweeping.specs.Inner.Raising.{Stepped}
use Rattle.sweeping.proofs.Stepping.{set_here}
use Rattle.sweeping.proofs.raising.stepped_row.Given.{Over}
use Rattle.sweeping.proofs.raising.stepped_row.Goals as goal
use Rattle.sweeping.proofs.raising.stepped_row.Goals.{In-loop-j}

-- the record's words
few : (g : Over) (c : In-loop-j g) → (c.loop-j.j < 18) × (c.args.from + c.loop-j.j < length c.args.out.now)
few g c = (
  omega (arith, c.loop-j-test.true, c.record_size-j-end.ensures, c.requires.0),
  omega (arith, c.loop-j-test.true, c.record_size-j-end.ensures, c.requires.1),
)

pub loop-j-init : goal.loop-j-init
loop-j-init g c = (refl, λ q l. absurd (not-suc-le-zero l))

pub loop-j-preserved : goal.loop-j-preserved
loop-j-preserved g c =
    let a = c.args in (
      length-set {A = ℕ} c.loop-j.row c.loop-j.j _ ∙ c.loop-j.invariant.0,
      set_here (λ q w. Stepped (get_or a.out.now (a.from + q) 0) (get_or a.steps.now q 0) w) c.loop-j.row c.loop-j.j _
          (omega (arith, (few g (goal.at.loop-j-preserved g c).In-loop-j).0, c.loop-j.invariant.0)) c.loop-j.invariant.1 c.stepped.ensures,
    )

pub returns : goal.returns
returns g c =
    λ j l. c.loop-j.invariant.1 j (omega (arith, c.loop-j-test.false, c.record_size-j-end.ensures))
