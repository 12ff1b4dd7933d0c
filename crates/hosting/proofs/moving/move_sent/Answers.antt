-- `move_sent`: what move wrote goes to the lent bytes, if they are enough. Assumes nothing.
use mathlib.Core.Path.{◌≡◌, refl, sym}
use Prim.Native.Nat.{◌≤◌}
use native.Mathlib.Omega.{arith}
use lib.ListN.{length, take}
use lib.Seq.{length-take-le}
use Rattle.std.proofs.lemmas.Result.{err_from_is_err_and}
use Rattle.motion.specs.Move.{MoveInput, move_input, moved_levels}
use Rattle.hosting.specs.Floats.{floats64}
use Rattle.hosting.specs.Inner.Rooms.{float_room}
use Rattle.hosting.proofs.MoveRows.{sent_front, sent-ranged, sent_short, sent_fits, sent-refused}
use Rattle.hosting.proofs.moving.move_sent.Goals as goal
use Rattle.hosting.proofs.moving.move_sent.Goals.{In_ok-m}

abbrev input : In_ok-m → MoveInput
input c = let a = c.args in move_input a.n a.v a.h a.step (floats64 a.points.now) float_room

front : (c : In_ok-m) → let w = c.move_decoded.new.out in
    (c.in_ok-m.m ≤ length w) × (take c.in_ok-m.m w ≡ moved_levels (input c))
front c = sent_front (input c) _ _ _ c.in_ok-m.ensures.answer c.in_ok-m.ensures.buffer

pub returns-then-levels-m : goal.returns-then-levels-m
returns-then-levels-m c =
    record {
      answer = sent_short (input (goal.at.returns-then-levels-m c).In_ok-m) _ _ _
          c.in_ok-m.ensures.answer c.in_ok-m.ensures.buffer _ c.if-levels-m.true;
      buffer = refl;
    }

pub slice_bounds-out-end : goal.slice_bounds-out-end
slice_bounds-out-end c = (front (goal.at.slice_bounds-out-end c).In_ok-m).0

pub slice_bounds-encode-end : goal.slice_bounds-encode-end
slice_bounds-encode-end c = sym (length-take-le _ _ (front (goal.at.slice_bounds-encode-end c).In_ok-m).0)

pub encode-requires : goal.encode-requires
encode-requires c =
    let w = (goal.at.encode-requires c).In_ok-m in (
      sent-ranged (input w) _ _ _ c.in_ok-m.ensures.answer c.in_ok-m.ensures.buffer,
      omega (arith, length-take-le c.in_ok-m.m c.move_decoded.new.out (front w).0, c.if-levels-m.false),
    )

pub returns : goal.returns
returns c =
    let both = sent_fits (input (goal.at.returns c).In_ok-m) _ _ _
    c.in_ok-m.ensures.answer c.in_ok-m.ensures.buffer _ _ _ c.if-levels-m.false c.encode.ensures in
    record { answer = both.0; buffer = both.1 }

pub returns-in_err-m : goal.returns-in_err-m
returns-in_err-m c =
    let p = err_from_is_err_and c.from_residual.result c.from_residual.ensures.1 in
    record { answer = rw (p.1, p.2) (sent-refused _ _ _ c.in_err-m.ensures.answer); buffer = rw p.1 refl }
