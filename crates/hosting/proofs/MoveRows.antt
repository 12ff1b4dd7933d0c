-- The call move on bytes, row by row.
--   row2 .. row12             the tests before row 13
--   refuses                   refused by the first that applies, and the lent bytes as they were
--   limits, ranged            what rows 2 and 4 say where they do not apply
--   move_small                so few points are lent that they fit their array
--   move_right                the tests before row 13 passed: what move answers on what is decoded, and then the room
--   move_decodes              move on what is decoded
--   sent_front, sent-ranged   what an accepted move wrote
--   sent_short, sent_fits     row 15 behind an accepted move
--   sent-refused              and a refused one
-- Assumes nothing.
use mathlib.Core.Path.{◌≡◌, refl, sym, ap, ◌∙◌, subst}
use mathlib.Core.Bool.{Bool, true, false, not, ◌&&◌, ◌||◌}
use mathlib.Core.List.{List}
use Prim.Native.Nat.{ℕ, ◌*◌, ◌≤◌, ◌<◌}
use native.Mathlib.Nat.{mul-le-mul, mul-le-mul_right, suc-mul, one-mul}
use native.Mathlib.Omega.{arith}
use lib.Dec.{eqb, leb, ltb}
use lib.Ieee.{Float}
use lib.ListN.{length, take}
use borrow.Author.Tests.{eq-eqb, eqb-true, leb-true, le-ltb, lt-ltb, ltb-false, not-false}
use Rattle.words.specs.Records.{all_of}
use Rattle.rules.specs.Calls.{Outcome, accepted, refused, after, written}
use Rattle.rules.specs.Limits.{axes_ok, vertices_ok, steps_ok, max_vertices, max_steps, swept_vertices, within}
use Rattle.rules.proofs.Accepting.{accepted_by}
use Rattle.rules.proofs.InLimits.{MoveLimits, move_limits_are}
use Rattle.rules.proofs.Refusing.{First, refused-first, kept}
use Rattle.rules.proofs.Tests.{and_parts}
use Rattle.solids.proofs.Tests.{or_false}
use Rattle.points.specs.Step.{in_range, step_fits, step_floats}
use Rattle.points.specs.declared.step.Step.{Step}
use Rattle.motion.specs.Move.{MoveInput, move_input, moved_levels, step_carries, moved_length, move_rules, move_outcome, move_buffer}
use Rattle.motion.proofs.Lengths.{moved_front}
use Rattle.hosting.specs.Floats.{floats64, float_bytes}
use Rattle.hosting.specs.Moves.{MoveTold, told_step, unused_set, told_move, host_move_rules, host_move_outcome, host_move_buffer}
use Rattle.hosting.specs.Inner.Rooms.{float_room, moved_room, in_room}
use Rattle.hosting.proofs.FloatLaws.{floats_length}

module _ (i : MoveTold) where
  -- the same call with room enough
  abbrev pub roomy : MoveInput
  roomy = move_input i.n i.v i.h (told_step i.step) (floats64 i.points) float_room

  abbrev pub row2 : Bool
  row2 = not ((axes_ok i.n && (vertices_ok i.v && steps_ok i.h)) && within 1 3 i.step.kind)

  abbrev pub row3 : Bool
  row3 = not (eqb (length i.points) (i.v * i.n * 8))

  abbrev pub row4 : Bool
  row4 = not (all_of in_range (step_floats (told_step i.step)) && all_of in_range (floats64 i.points))

  abbrev pub row5 : Bool
  row5 = not (step_fits i.n (told_step i.step)) || unused_set i.step

  abbrev pub row12 : Bool
  row12 = ltb max_vertices (swept_vertices i.v i.h)

  pub refuses : (out : List ℕ) (n : ℕ) → First host_move_rules i n → (refused n ≡ host_move_outcome i) × (out ≡ host_move_buffer i out)
  unfolding host_move_outcome host_move_rules host_move_buffer
  refuses out n h =
      let e = refused-first host_move_rules (λ i. moved_length (told_move i)) i refl n h in
      (e, kept _ n (float_bytes (moved_levels (told_move i))) out e)

  -- what rows 2 and 4 say where they do not apply
  numbers : row2 ≡ false → (axes_ok i.n && (vertices_ok i.v && steps_ok i.h)) ≡ true
  numbers a = (and_parts _ (within 1 3 i.step.kind) (not-false _ a)).0

  pub limits : row2 ≡ false → MoveLimits i.n i.v i.h
  limits a = move_limits_are i.n i.v i.h (ap not (numbers a))

  some-steps : row2 ≡ false → 1 ≤ i.h
  some-steps a =
      let counts = (and_parts (axes_ok i.n) (vertices_ok i.v && steps_ok i.h) (numbers a)).1 in
      leb-true 1 i.h (and_parts (leb 1 i.h) (leb i.h max_steps) (and_parts (vertices_ok i.v) (steps_ok i.h) counts).1).0

  pub ranged : row4 ≡ false → (all_of in_range (step_floats (told_step i.step)) ≡ true) × (all_of in_range (floats64 i.points) ≡ true)
  ranged c = and_parts (all_of in_range (step_floats (told_step i.step))) (all_of in_range (floats64 i.points)) (not-false _ c)

  module _ (a : row2 ≡ false) (b : row3 ≡ false) (c : row4 ≡ false) (d : row5 ≡ false) (e : row12 ≡ false) where
    long : length i.points ≡ i.v * i.n * 8
    long = eqb-true _ _ (not-false _ b)

    swept : swept_vertices i.v i.h ≤ max_vertices
    swept = ltb-false max_vertices (swept_vertices i.v i.h) e

    pub move_small : (length i.points ≤ moved_room * 8) × (all_of in_range (floats64 i.points) ≡ true)
    move_small =
        let half = mul-le-mul_right {m = 1} {n = i.h} i.v (some-steps a) in
        let few : i.v ≤ 2048 = omega (arith, swept, suc-mul i.h i.v, half, one-mul i.v) in
        (omega (arith, long, mul-le-mul few (limits a).axes), (ranged c).1)

    fits : ltb float_room (moved_length roomy) ≡ false
    fits = le-ltb float_room (moved_length roomy) (omega (arith, mul-le-mul swept (limits a).axes))

    same : host_move_outcome i ≡ in_room i.room (move_outcome roomy)
    unfolding host_move_outcome host_move_rules move_outcome move_rules moved_levels
    same = go (not (all_of in_range (moved_levels roomy))) refl (not (step_carries roomy)) refl (ltb i.room (moved_length roomy)) refl
      where
        right : eqb (length (floats64 i.points)) (i.v * i.n) ≡ true
        right = eq-eqb (length (floats64 i.points)) (i.v * i.n) (omega (arith, long, floats_length i.points))

        fit : not (step_fits i.n (told_step i.step)) ≡ false
        fit = (or_false _ (unused_set i.step) d).0

        go : (x : Bool) → not (all_of in_range (moved_levels roomy)) ≡ x → (z : Bool) → not (step_carries roomy) ≡ z →
            (y : Bool) → ltb i.room (moved_length roomy) ≡ y → host_move_outcome i ≡ in_room i.room (move_outcome roomy)
        go true p z r y q = rw (a, b, c, d, e, p, numbers a, right, fit) refl
        go false p true r y q = rw (a, b, c, d, e, p, r, numbers a, right, fit) refl
        go false p false r true q = rw (a, b, c, d, e, p, r, q, numbers a, right, fit, fits, q) refl
        go false p false r false q = rw (a, b, c, d, e, p, r, q, numbers a, right, fit, fits, q) refl

    pub move_right : (out : List ℕ) (step : Step) → step ≡ told_step i.step → (o : Outcome ℕ) (w : List ℕ) →
        let m = move_input i.n i.v i.h step (floats64 i.points) float_room in
        (o ≡ in_room i.room (move_outcome m)) × (w ≡ after o (float_bytes (moved_levels m)) out) →
        (o ≡ host_move_outcome i) × (w ≡ host_move_buffer i out)
    unfolding host_move_buffer moved_levels
    move_right out step q o w g =
        let h = subst (λ (s : Step).
        let m = move_input i.n i.v i.h s (floats64 i.points) float_room in
        (o ≡ in_room i.room (move_outcome m)) × (w ≡ after o (float_bytes (moved_levels m)) out)) q g in
        (h.0 ∙ sym same, h.1 ∙ ap (λ (r : Outcome ℕ). after r (float_bytes (moved_levels roomy)) out) (h.0 ∙ sym same))

-- floats that were decoded to the front of an array
pub move_decodes : (n v h : ℕ) (step : Step) (b : List ℕ) (out : List Float) (o : Outcome ℕ) (w fs : List Float) →
    (o ≡ move_outcome (move_input n v h step fs (length out))) × (w ≡ move_buffer (move_input n v h step fs (length out)) out) →
    fs ≡ floats64 b →
    (o ≡ move_outcome (move_input n v h step (floats64 b) (length out))) × (w ≡ move_buffer (move_input n v h step (floats64 b) (length out)) out)
move_decodes n v h step b out o w fs e a = rw (sym a) e

-- w is the array that an accepted move wrote k floats to
module _ (m : MoveInput) (out w : List Float) (k : ℕ) (e : accepted k ≡ move_outcome m) (ew : w ≡ move_buffer m out) where
  pub sent_front : (k ≤ length w) × (take k w ≡ moved_levels m)
  sent_front = moved_front m out w k ew (sym e)

  pub sent-ranged : all_of in_range (take k w) ≡ true
  unfolding move_outcome move_rules
  sent-ranged = ap (all_of in_range) sent_front.1 ∙ not-false _ ((accepted_by move_rules moved_length m k refl (sym e)).1 13)

  pub sent_short : (room : ℕ) → room < k → refused 15 ≡ in_room room (move_outcome m)
  sent_short room h = rw (sym e, lt-ltb room k h) refl

  pub sent_fits : (room : ℕ) (levels new : List ℕ) → k ≤ room → new ≡ written (float_bytes (take k w)) levels →
      (accepted k ≡ in_room room (move_outcome m)) × (new ≡ written (float_bytes (moved_levels m)) levels)
  sent_fits room levels new h g =
      (rw (sym e, le-ltb room k h) refl, g ∙ ap (λ xs. written (float_bytes xs) levels) sent_front.1)

pub sent-refused : (m : MoveInput) (k room : ℕ) → refused k ≡ move_outcome m → refused k ≡ in_room room (move_outcome m)
sent-refused m k room e = rw (sym e) refl
