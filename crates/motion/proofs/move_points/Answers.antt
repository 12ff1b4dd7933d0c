-- `move_points` answers `move_outcome`, and leaves `move_buffer`: each return is a rule's. Assumes nothing.
use mathlib.Core.Path.{◌≡◌, refl, sym, ap, ◌∙◌}
use mathlib.Core.Bool.{false, not, ◌&&◌}
use Prim.Native.Nat.{ℕ, ◌*◌, ◌≤◌}
use native.Mathlib.Nat.{mul-le-mul}
use native.Mathlib.Omega.{arith}
use lib.Dec.{eqb, ltb}
use lib.ListN.{length}
use borrow.Author.Tests.{not-false}
use Rattle.words.specs.Records.{all_of}
use Rattle.rules.specs.Limits.{max_vertices, axes_ok, vertices_ok, steps_ok, swept_vertices}
use Rattle.rules.specs.Calls.{refused}
use Rattle.rules.proofs.Refusing.{First, None}
use Rattle.rules.proofs.Tests.{differs, agrees, is_less, not_less}
use Rattle.rules.proofs.InLimits.{MoveLimits, move_limits_are}
use Rattle.points.specs.Step.{in_range, step_fits, step_floats}
use Rattle.points.specs.Levels.{levels}
use Rattle.points.specs.Carrying.{carries}
use Rattle.motion.specs.Move.{MoveInput, move_input, moved_levels, move_tests, move_rules, move_outcome, move_buffer}
use Rattle.motion.proofs.Order.{refuses, accepts, full, free}
use Rattle.motion.proofs.move_points.Goals as goal
use Rattle.motion.proofs.move_points.Goals.{Else-points-v, Else-swept-gt-MAX_VERTICES, Else-out-count, Else-not-carries, Else-not-fits}
use Rattle.motion.proofs.move_points.Goals.{Else-not-floats_in_range, Else-not-levels_stay, Else-not-numbers_ok, Start}

abbrev told : Start → MoveInput
told s = let a = s.args in move_input a.n a.v a.h a.step a.points.now (length a.out.now)

-- a call that a rule refuses
refused_by : (c : Start) (n : ℕ) → First move_rules (told c) n →
    (refused n ≡ move_outcome (told c)) × (c.args.out.now ≡ move_buffer (told c) c.args.out.now)
refused_by c n h = refuses (told c) c.args.out.now n h

-- what the tests say
numbered : (c : Else-not-numbers_ok) → let a = c.args in not (axes_ok a.n && (vertices_ok a.v && steps_ok a.h)) ≡ false
numbered c = ap not (sym c.numbers_ok.ensures ∙ c.if-not-numbers_ok.false)

limits : (c : Else-not-numbers_ok) → let a = c.args in MoveLimits a.n a.v a.h
limits c = move_limits_are _ _ _ (numbered c)

long : (c : Else-points-v) → let a = c.args in not (eqb (length a.points.now) (a.v * a.n)) ≡ false
long c = agrees _ _ c.if-points-v.false

ranged : (c : Else-not-floats_in_range) → let a = c.args in not (all_of in_range (step_floats a.step) && all_of in_range a.points.now) ≡ false
ranged c = ap not (sym c.floats_in_range.ensures ∙ c.if-not-floats_in_range.false)

fits : (c : Else-not-fits) → let a = c.args in not (step_fits a.n a.step) ≡ false
fits c = ap not (sym c.fits.ensures ∙ c.if-not-fits.false)

small : (c : Else-swept-gt-MAX_VERTICES) → let a = c.args in ltb max_vertices (swept_vertices a.v a.h) ≡ false
small c = ap (ltb max_vertices) (sym c.swept_vertices-swept.ensures) ∙ not_less _ _ c.if-swept-gt-MAX_VERTICES.false

few : (c : Else-swept-gt-MAX_VERTICES) → c.swept_vertices-swept.result ≤ max_vertices
few c = c.if-swept-gt-MAX_VERTICES.false

stay : (c : Else-not-levels_stay) → let a = c.args in not (all_of in_range (levels a.step a.n a.v a.h a.points.now)) ≡ false
stay c = ap not (sym c.levels_stay.ensures ∙ c.if-not-levels_stay.false)

carry : (c : Else-not-carries) → let a = c.args in
    not (carries a.step a.n a.v a.h (levels a.step a.n a.v a.h a.points.now)) ≡ false
carry c = ap not (sym c.carries.ensures ∙ c.if-not-carries.false)

-- all tests but that of the room
passed : (c : Else-not-carries) → None move_tests (told ((goal.at.Else-not-carries c).Start))
unfolding moved_levels
passed c =
    rw (
      numbered (goal.at.Else-not-carries c).Else-not-numbers_ok,
      long (goal.at.Else-not-carries c).Else-points-v,
      ranged (goal.at.Else-not-carries c).Else-not-floats_in_range,
      fits (goal.at.Else-not-carries c).Else-not-fits,
      small (goal.at.Else-not-carries c).Else-swept-gt-MAX_VERTICES,
      stay (goal.at.Else-not-carries c).Else-not-levels_stay,
      carry c,
    ) refl

none : (c : Else-out-count) → None move_rules (told ((goal.at.Else-out-count c).Start))
none c = free (told ((goal.at.Else-out-count c).Start)) (passed (goal.at.Else-out-count c).Else-not-carries) (
    ap (λ k. ltb (length c.args.out.now) (k * c.args.n)) (sym c.swept_vertices-swept.ensures) ∙ not_less _ _ c.if-out-count.false
    )

pub returns-then-not-numbers_ok : goal.returns-then-not-numbers_ok
unfolding move_rules
returns-then-not-numbers_ok c =
    let r = refused_by (goal.at.returns-then-not-numbers_ok c).Start 2 (rw (ap not (sym c.numbers_ok.ensures ∙ c.if-not-numbers_ok.true)) refl) in
    record { answer = r.0; buffer = r.1 }

pub overflow_mul-v : goal.overflow_mul-v
overflow_mul-v c = let l = limits c in omega (arith, mul-le-mul l.vertices l.axes)

pub returns-then-points-v : goal.returns-then-points-v
unfolding move_rules
returns-then-points-v c =
    let r = refused_by (goal.at.returns-then-points-v c).Start 3 (rw (
      numbered (goal.at.returns-then-points-v c).Else-not-numbers_ok,
      differs _ _ c.if-points-v.true,
    ) refl) in
    record { answer = r.0; buffer = r.1 }

pub returns-then-not-floats_in_range : goal.returns-then-not-floats_in_range
unfolding move_rules
returns-then-not-floats_in_range c =
    let r = refused_by (goal.at.returns-then-not-floats_in_range c).Start 4 (rw (
      numbered (goal.at.returns-then-not-floats_in_range c).Else-not-numbers_ok,
      long (goal.at.returns-then-not-floats_in_range c).Else-points-v,
      ap not (sym c.floats_in_range.ensures ∙ c.if-not-floats_in_range.true),
    ) refl) in
    record { answer = r.0; buffer = r.1 }

pub returns-then-not-fits : goal.returns-then-not-fits
unfolding move_rules
returns-then-not-fits c =
    let r = refused_by (goal.at.returns-then-not-fits c).Start 5 (rw (
      numbered (goal.at.returns-then-not-fits c).Else-not-numbers_ok,
      long (goal.at.returns-then-not-fits c).Else-points-v,
      ranged (goal.at.returns-then-not-fits c).Else-not-floats_in_range,
      ap not (sym c.fits.ensures ∙ c.if-not-fits.true),
    ) refl) in
    record { answer = r.0; buffer = r.1 }

pub swept_vertices-swept-requires : goal.swept_vertices-swept-requires
swept_vertices-swept-requires c = let l = limits (goal.at.swept_vertices-swept-requires c).Else-not-numbers_ok in (l.vertices, l.steps)

pub returns-then-swept-gt-MAX_VERTICES : goal.returns-then-swept-gt-MAX_VERTICES
unfolding move_rules
returns-then-swept-gt-MAX_VERTICES c =
    let r = refused_by (goal.at.returns-then-swept-gt-MAX_VERTICES c).Start 12 (rw (
      numbered (goal.at.returns-then-swept-gt-MAX_VERTICES c).Else-not-numbers_ok,
      long (goal.at.returns-then-swept-gt-MAX_VERTICES c).Else-points-v,
      ranged (goal.at.returns-then-swept-gt-MAX_VERTICES c).Else-not-floats_in_range,
      fits (goal.at.returns-then-swept-gt-MAX_VERTICES c).Else-not-fits,
      ap (ltb max_vertices) (sym c.swept_vertices-swept.ensures) ∙ is_less _ _ c.if-swept-gt-MAX_VERTICES.true,
    ) refl) in
    record { answer = r.0; buffer = r.1 }

pub levels_stay-requires : goal.levels_stay-requires
levels_stay-requires c = record {
  n_bound = (
    (limits (goal.at.levels_stay-requires c).Else-not-numbers_ok).axes,
    long (goal.at.levels_stay-requires c).Else-points-v,
    fits (goal.at.levels_stay-requires c).Else-not-fits,
  );
  points_value = ranged (goal.at.levels_stay-requires c).Else-not-floats_in_range;
}

pub returns-then-not-levels_stay : goal.returns-then-not-levels_stay
unfolding move_rules moved_levels
returns-then-not-levels_stay c =
    let r = refused_by (goal.at.returns-then-not-levels_stay c).Start 13 (rw (
      numbered (goal.at.returns-then-not-levels_stay c).Else-not-numbers_ok,
      long (goal.at.returns-then-not-levels_stay c).Else-points-v,
      ranged (goal.at.returns-then-not-levels_stay c).Else-not-floats_in_range,
      fits (goal.at.returns-then-not-levels_stay c).Else-not-fits,
      small (goal.at.returns-then-not-levels_stay c).Else-swept-gt-MAX_VERTICES,
      ap not (sym c.levels_stay.ensures ∙ c.if-not-levels_stay.true),
    ) refl) in
    record { answer = r.0; buffer = r.1 }

pub carries-requires : goal.carries-requires
carries-requires c = (
  (limits (goal.at.carries-requires c).Else-not-numbers_ok).axes,
  not-false _ (fits (goal.at.carries-requires c).Else-not-fits),
  c.if-points-v.false,
)

pub returns-then-not-carries : goal.returns-then-not-carries
unfolding move_rules moved_levels
returns-then-not-carries c =
    let r = refused_by (goal.at.returns-then-not-carries c).Start 17 (rw (
      numbered (goal.at.returns-then-not-carries c).Else-not-numbers_ok,
      long (goal.at.returns-then-not-carries c).Else-points-v,
      ranged (goal.at.returns-then-not-carries c).Else-not-floats_in_range,
      fits (goal.at.returns-then-not-carries c).Else-not-fits,
      small (goal.at.returns-then-not-carries c).Else-swept-gt-MAX_VERTICES,
      stay (goal.at.returns-then-not-carries c).Else-not-levels_stay,
      ap not (sym c.carries.ensures ∙ c.if-not-carries.true),
    ) refl) in
    record { answer = r.0; buffer = r.1 }

pub overflow_mul-count : goal.overflow_mul-count
overflow_mul-count c =
    omega (
      arith,
      mul-le-mul (few (goal.at.overflow_mul-count c).Else-swept-gt-MAX_VERTICES) (limits
          (goal.at.overflow_mul-count c).Else-not-numbers_ok).axes,
    )

pub returns-then-out-count : goal.returns-then-out-count
unfolding move_rules moved_levels
returns-then-out-count c =
    let k = goal.at.returns-then-out-count c in
    let r = refused_by k.Start 15 (full (told k.Start) (passed k.Else-not-carries) (
    ap (λ k. ltb (length c.args.out.now) (k * c.args.n)) (sym c.swept_vertices-swept.ensures) ∙ is_less _ _ c.if-out-count.true
    )) in
    record { answer = r.0; buffer = r.1 }

pub write_levels-requires : goal.write_levels-requires
write_levels-requires c = record {
  step_value = not-false _ (fits (goal.at.write_levels-requires c).Else-not-fits);
  points_len = (c.if-points-v.false, (rw c.swept_vertices-swept.ensures at c.if-out-count.false));
}

pub returns : goal.returns
unfolding move_rules moved_levels
returns c =
    let k = goal.at.returns c in
    let r = accepts (told k.Start) c.args.out.now (c.swept_vertices-swept.result * c.args.n) _ (none k.Else-out-count)
    (ap (λ (s : ℕ). s * c.args.n) c.swept_vertices-swept.ensures) c.write_levels.ensures in
    record { answer = r.0; buffer = r.1 }
