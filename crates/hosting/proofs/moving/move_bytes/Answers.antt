-- `move_bytes` meets its contract: each refusal is its row's, and the rest is move's. Assumes nothing.
use mathlib.Core.Path.{◌≡◌, sym, ap, ◌∙◌}
use mathlib.Core.Bool.{false, not}
use Prim.Native.Nat.{◌*◌, ◌/◌, ◌≤◌}
use native.Mathlib.Nat.{mul-le-mul}
use native.Mathlib.Omega.{arith}
use lib.Dec.{ltb}
use lib.ListN.{length}
use Rattle.rules.specs.Limits.{max_vertices}
use Rattle.rules.proofs.Tests.{differs, agrees, is_less, not_less}
use Rattle.hosting.specs.Inner.Rooms.{float_room}
use Rattle.hosting.specs.Moves.{MoveTold, move_told, host_move_rules}
use Rattle.hosting.proofs.MoveRows.{row2, row3, row4, row5, row12, refuses, limits, ranged, move_small, move_right}
use Rattle.hosting.proofs.moving.move_bytes.Goals as goal
use Rattle.hosting.proofs.moving.move_bytes.Goals.{Else-not-floats_fit, Else-not-numbers_fit, Else-points-v, Else-step_unfit}
use Rattle.hosting.proofs.moving.move_bytes.Goals.{Else-swept_vertices-gt-MAX_VERTICES, Start}

abbrev told : Start → MoveTold
told s = let a = s.args in move_told a.n a.v a.h a.t a.points.now (length a.levels.now / 8)

-- the rows where they do not apply
two : (c : Else-not-numbers_fit) → row2 (told (goal.at.Else-not-numbers_fit c).Start) ≡ false
two c = ap not (sym c.numbers_fit.ensures ∙ c.if-not-numbers_fit.false)

three : (c : Else-points-v) → row3 (told (goal.at.Else-points-v c).Start) ≡ false
three c = agrees _ _ c.if-points-v.false

four : (c : Else-not-floats_fit) → row4 (told (goal.at.Else-not-floats_fit c).Start) ≡ false
four c = ap not (sym c.floats_fit.ensures ∙ c.if-not-floats_fit.false)

five : (c : Else-step_unfit) → row5 (told (goal.at.Else-step_unfit c).Start) ≡ false
five c = sym c.step_unfit.ensures ∙ c.if-step_unfit.false

twelve : (c : Else-swept_vertices-gt-MAX_VERTICES) → row12 (told (goal.at.Else-swept_vertices-gt-MAX_VERTICES c).Start) ≡ false
twelve c = ap (ltb max_vertices) (sym c.swept_vertices.ensures) ∙ not_less _ _ c.if-swept_vertices-gt-MAX_VERTICES.false

-- the most floats
few : (c : Else-not-numbers_fit) → c.args.v * c.args.n ≤ float_room
few c = let l = limits (told (goal.at.Else-not-numbers_fit c).Start) (two c) in mul-le-mul l.vertices l.axes

pub returns-then-not-numbers_fit : goal.returns-then-not-numbers_fit
unfolding host_move_rules
returns-then-not-numbers_fit c =
    let both = refuses (told (goal.at.returns-then-not-numbers_fit c).Start) c.args.levels.now 2
    (rw (sym c.numbers_fit.ensures, c.if-not-numbers_fit.true)) in
    record { answer = both.0; buffer = both.1 }

pub overflow_mul-v : goal.overflow_mul-v
overflow_mul-v c = omega (arith, few c)

pub overflow_mul-v-2 : goal.overflow_mul-v-2
overflow_mul-v-2 c = omega (arith, few c)

pub returns-then-points-v : goal.returns-then-points-v
unfolding host_move_rules
returns-then-points-v c =
    let both = refuses (told (goal.at.returns-then-points-v c).Start) c.args.levels.now 3
    (rw (two (goal.at.returns-then-points-v c).Else-not-numbers_fit, differs _ _ c.if-points-v.true)) in
    record { answer = both.0; buffer = both.1 }

pub returns-then-not-floats_fit : goal.returns-then-not-floats_fit
unfolding host_move_rules
returns-then-not-floats_fit c =
    let both = refuses (told (goal.at.returns-then-not-floats_fit c).Start) c.args.levels.now 4
    (rw (
      two (goal.at.returns-then-not-floats_fit c).Else-not-numbers_fit,
      three (goal.at.returns-then-not-floats_fit c).Else-points-v,
      sym c.floats_fit.ensures,
      c.if-not-floats_fit.true,
    )) in
    record { answer = both.0; buffer = both.1 }

pub step_unfit-requires : goal.step_unfit-requires
step_unfit-requires c = (ranged (told (goal.at.step_unfit-requires c).Start) (four c)).0

pub returns-then-step_unfit : goal.returns-then-step_unfit
unfolding host_move_rules
returns-then-step_unfit c =
    let both = refuses (told (goal.at.returns-then-step_unfit c).Start) c.args.levels.now 5
    (rw (
      two (goal.at.returns-then-step_unfit c).Else-not-numbers_fit,
      three (goal.at.returns-then-step_unfit c).Else-points-v,
      four (goal.at.returns-then-step_unfit c).Else-not-floats_fit,
      sym c.step_unfit.ensures,
      c.if-step_unfit.true,
    )) in
    record { answer = both.0; buffer = both.1 }

pub swept_vertices-requires : goal.swept_vertices-requires
swept_vertices-requires c = let l =
    limits (told (goal.at.swept_vertices-requires c).Start) (two (goal.at.swept_vertices-requires c).Else-not-numbers_fit) in (l.vertices, l.steps)

pub returns-then-swept_vertices-gt-MAX_VERTICES : goal.returns-then-swept_vertices-gt-MAX_VERTICES
unfolding host_move_rules
returns-then-swept_vertices-gt-MAX_VERTICES c =
    let both = refuses (told (goal.at.returns-then-swept_vertices-gt-MAX_VERTICES c).Start) c.args.levels.now 12
    (rw (
      two (goal.at.returns-then-swept_vertices-gt-MAX_VERTICES c).Else-not-numbers_fit,
      three (goal.at.returns-then-swept_vertices-gt-MAX_VERTICES c).Else-points-v,
      four (goal.at.returns-then-swept_vertices-gt-MAX_VERTICES c).Else-not-floats_fit,
      five (goal.at.returns-then-swept_vertices-gt-MAX_VERTICES c).Else-step_unfit,
      ap (ltb max_vertices) (sym c.swept_vertices.ensures) ∙ is_less _ _ c.if-swept_vertices-gt-MAX_VERTICES.true,
    )) in
    record { answer = both.0; buffer = both.1 }

pub step_of-requires : goal.step_of-requires
step_of-requires c = (ranged (told (goal.at.step_of-requires c).Start) (four (goal.at.step_of-requires c).Else-not-floats_fit)).0

pub move_sent-requires : goal.move_sent-requires
move_sent-requires c =
    move_small (told (goal.at.move_sent-requires c).Start) (two (goal.at.move_sent-requires c).Else-not-numbers_fit)
    (three (goal.at.move_sent-requires c).Else-points-v) (four (goal.at.move_sent-requires c).Else-not-floats_fit)
    (five (goal.at.move_sent-requires c).Else-step_unfit) (twelve (goal.at.move_sent-requires c).Else-swept_vertices-gt-MAX_VERTICES)

pub returns : goal.returns
returns c =
    let p = goal.at.returns c in
    let e = c.move_sent.ensures in
    let both = move_right (told p.Start) (two p.Else-not-numbers_fit) (three p.Else-points-v) (four p.Else-not-floats_fit)
    (five p.Else-step_unfit) (twelve p.Else-swept_vertices-gt-MAX_VERTICES) c.args.levels.now _ c.step_of.ensures _ _ (e.answer, e.buffer) in
    record { answer = both.0; buffer = both.1 }
