-- `step_of` answers the step, kind by kind. Assumes nothing.
use mathlib.Core.Path.{sym}
use Rattle.hosting.proofs.StepLaws.{Held, slide_is, slant_is, turn_is, slide_held, slant_held, turn_held}
use Rattle.hosting.proofs.step_bits.step_of.Goals as goal
use Rattle.hosting.proofs.step_bits.step_of.Goals.{Else-t-eq2, Then-t-eq2}

-- the floats of a slant and of a turn
slant : (c : Then-t-eq2) → let t = c.args.t in Held t.a t.b 0
slant c = slant_held c.args.t c.if-t-eq1.false c.if-t-eq2.true c.requires

turn : (c : Else-t-eq2) → let t = c.args.t in Held t.a t.b t.c
turn c = turn_held c.args.t c.if-t-eq1.false c.if-t-eq2.false c.requires

pub float_of-requires : goal.float_of-requires
float_of-requires c = (slide_held c.args.t c.if-t-eq1.true c.requires).0

pub returns-then-t-eq1 : goal.returns-then-t-eq1
returns-then-t-eq1 c = rw c.float_of.ensures (sym (slide_is _ c.if-t-eq1.true))

pub float_of-requires-then-t-eq2 : goal.float_of-requires-then-t-eq2
float_of-requires-then-t-eq2 c = (slant c).0

pub float_of-requires-then-t-eq2-2 : goal.float_of-requires-then-t-eq2-2
float_of-requires-then-t-eq2-2 c = (slant (goal.at.float_of-requires-then-t-eq2-2 c).Then-t-eq2).1

pub returns-then-t-eq2 : goal.returns-then-t-eq2
returns-then-t-eq2 c = rw (c.float_of-then-t-eq2.ensures, c.float_of-then-t-eq2-2.ensures)
    (sym (slant_is _ c.if-t-eq1.false c.if-t-eq2.true))

pub float_of-requires-2 : goal.float_of-requires-2
float_of-requires-2 c = (turn c).0

pub float_of-requires-3 : goal.float_of-requires-3
float_of-requires-3 c = (turn (goal.at.float_of-requires-3 c).Else-t-eq2).1

pub float_of-requires-4 : goal.float_of-requires-4
float_of-requires-4 c = (turn (goal.at.float_of-requires-4 c).Else-t-eq2).2

pub returns : goal.returns
returns c =
    rw (c.float_of-2.ensures, c.float_of-3.ensures, c.float_of-4.ensures)
    (sym (turn_is _ c.if-t-eq1.false c.if-t-eq2.false))
