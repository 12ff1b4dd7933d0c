-- `step` answers `step_of`, kind by kind. Assumes nothing.
use mathlib.Core.Path.{◌≡◌, sym, ◌∙◌}
use mathlib.Core.Bool.{true}
use Prim.Native.Nat.{ℕ, ◌<◌}
use native.Mathlib.Omega.{arith}
use lib.Ieee.{nan}
use lib.ListN.{get_or}
use Rattle.words.specs.Records.{tabulate}
use Rattle.words.proofs.Loops.{all_at}
use Rattle.points.specs.Step.{in_range}
use Rattle.file.specs.File.{kind_of, amount_of}
use Rattle.file.proofs.StepKinds.{slide_of, slant_of, turn_of_lem}
use Rattle.file.proofs.step.step.Goals as goal
use Rattle.file.proofs.step.step.Goals.{Else-kind-eq1, Start}

-- each of the three floats is in range
amount : (c : Start) (k : ℕ) → k < 3 → in_range (get_or (tabulate 3 (amount_of c.args.b.now)) k nan) ≡ true
amount c k h = all_at in_range nan (tabulate 3 (amount_of c.args.b.now)) k c.requires.1 h

-- not the first kind
not-slide : (c : Else-kind-eq1) → kind_of c.args.b.now ≡ 1 → ⊥
not-slide c e = c.if-kind-eq1.false (c.byte_at-kind.ensures.0 ∙ e)

pub float_at-first-requires : goal.float_at-first-requires
float_at-first-requires c = (omega (arith, c.requires.0), amount (goal.at.float_at-first-requires c).Start 0 (omega arith))

pub returns-then-kind-eq1 : goal.returns-then-kind-eq1
returns-then-kind-eq1 c =
    let slide = slide_of c.args.b.now (sym c.byte_at-kind.ensures.0 ∙ c.if-kind-eq1.true) in
    rw (c.byte_at-axis.ensures.0, c.float_at-first.ensures) (sym slide)

pub float_at-second-requires : goal.float_at-second-requires
float_at-second-requires c = (omega (arith, c.requires.0), amount (goal.at.float_at-second-requires c).Start 1 (omega arith))

pub returns-then-kind-eq2 : goal.returns-then-kind-eq2
returns-then-kind-eq2 c =
    let slant = slant_of c.args.b.now (not-slide (goal.at.returns-then-kind-eq2 c).Else-kind-eq1) (sym c.byte_at-kind.ensures.0 ∙ c.if-kind-eq2.true)
    in
    rw (c.byte_at-axis.ensures.0, c.float_at-first.ensures, c.byte_at.ensures.0, c.float_at-second.ensures) (sym slant)

pub float_at-requires : goal.float_at-requires
float_at-requires c = (omega (arith, c.requires.0), amount (goal.at.float_at-requires c).Start 2 (omega arith))

pub returns : goal.returns
returns c =
    let turn = turn_of_lem c.args.b.now (not-slide (goal.at.returns c).Else-kind-eq1) (λ e. c.if-kind-eq2.false (c.byte_at-kind.ensures.0 ∙ e)) in
    rw (c.float_at-first.ensures, c.float_at-second.ensures, c.float_at.ensures) (sym turn)
