-- v points of one axis, all at x, slid by a: the rules of move one by one, so that no list of thousands is computed.
--   same_range        a test that passes at x passes at each of n copies
--   moved_same        all v points after the step
--   slid-carried      a slide by a carries them where the sum is above x
--   slid-accepted     move accepts them in one step, where x, a and their sum are in range, and the sum is above x
--   slid-refused      move refuses them by row 12, where they become too many
use mathlib.Core.Path.{◌≡◌, refl, sym, ap, ◌∙◌}
use mathlib.Core.Bool.{Bool, true, false}
use mathlib.Core.List.{List, [], ◌∷◌, ◌++◌, append-nil}
use Prim.Native.Nat.{ℕ, zero, suc, ◌*◌, ◌<◌}
use native.Mathlib.Omega.{arith}
use native.Mathlib.Nat.{mul-one, zero-lt-suc, not-suc-le-zero, le_of_suc-le-suc}
use lib.Dec.{eqb, ltb}
use lib.ListN.{length, get_or, take, drop, replicate, length-replicate, get_or-replicate}
use lib.Seq.{drop-cons}
use lib.Ieee.{Float, nan, binary64, add, eq, lt}
use borrow.Author.Tests.{eq-eqb}
use Rattle.words.specs.Records.{tabulate, part, concat, all_of}
use Rattle.words.proofs.Records.{tabulate_ext}
use Rattle.rules.specs.Limits.{max_vertices, steps_ok, swept_vertices, vertices_ok}
use Rattle.rules.specs.Calls.{accepted, refused}
use Rattle.points.specs.declared.step.Step.TheVariants as S
use Rattle.points.specs.Levels.{moved_all, sum_of}
use Rattle.points.specs.Step.{add_at, in_range, moved_point, step_fits}
use Rattle.points.proofs.AllOf.{all_of-append}
use Rattle.points.proofs.CarryingLaws.{none-carries}
use Rattle.motion.specs.Move.{MoveInput, move_input, moved_length, moved_levels, step_carries, move_rules, move_outcome}
use Rattle.motion.proofs.Order.{accepts, refuses}
use Rattle.theorems.specs.Carrying.{carries_all}
use Rattle.theorems.proofs.Carrying.{upwards}

same_range : (q : Float → Bool) (n : ℕ) (x : Float) → q x ≡ true → all_of q (replicate n x) ≡ true
same_range q zero x h = refl
same_range q (suc n) x h = rw h (same_range q n x h)

concat-same : (n : ℕ) (x : Float) → concat (tabulate n (λ p. x ∷ [])) ≡ replicate n x
concat-same zero x = refl
concat-same (suc n) x = ap {B = List Float} (λ r. x ∷ r) (concat-same n x)

point_at : (v p : ℕ) (x : Float) → p < v → part 1 p (replicate v x) ≡ x ∷ []
point_at v p x h =
    ap (λ j. take 1 (drop j (replicate v x))) (mul-one p)
    ∙ ap (take 1) (drop-cons (replicate v x) p x (omega (arith, length-replicate v x)))
    ∙ ap {B = List Float} (λ y. y ∷ []) (get_or-replicate v p x x h)

moved_same : (v : ℕ) (x a : Float) → moved_all (S.Slide 0 a) 1 v (replicate v x) ≡ replicate v (add binary64 x a)
unfolding moved_point add_at
moved_same v x a =
    ap concat (tabulate_ext v (λ p. moved_point (S.Slide 0 a) 1 (part 1 p (replicate v x)))
    (λ p. add binary64 x a ∷ []) (λ p h. ap (moved_point (S.Slide 0 a) 1) (point_at v p x h)))
    ∙ concat-same v (add binary64 x a)

slid-carried : (v : ℕ) (x a : Float) → eq x x ≡ true → lt x (add binary64 x a) ≡ true → carries_all (S.Slide 0 a) 1 v 1 (replicate v x) ≡ true
slid-carried zero x a number up = none-carries (S.Slide 0 a) 1 1 _
slid-carried (suc w) x a number up =
    upwards 1 1 0 a (replicate (suc w) x) (zero-lt-suc 0) (suc w) (length-replicate (suc w) x ∙ sym (mul-one (suc w)))
    (λ k g. ap (λ (p : List Float). eq x (get_or p 0 nan)) (point_at (suc w) k x g) ∙ number) one-step
  where
    one-step : (i : ℕ) → i < 1 → lt (sum_of a i x) (sum_of a (suc i) x) ≡ true
    one-step zero l = up
    one-step (suc i) l = absurd (not-suc-le-zero (le_of_suc-le-suc l))

module _ (v : ℕ) (x a : Float) (room : ℕ) where
  abbrev slid : MoveInput
  slid = move_input 1 v 1 (S.Slide 0 a) (replicate v x) room

  levels_in : in_range x ≡ true → in_range (add binary64 x a) ≡ true → all_of in_range (moved_levels slid) ≡ true
  unfolding moved_levels
  levels_in hx hy =
      all_of-append in_range (replicate v x) (moved_all (S.Slide 0 a) 1 v (replicate v x) ++ [])
      ∙ rw (
        same_range in_range v x hx,
        append-nil (moved_all (S.Slide 0 a) 1 v (replicate v x)),
        moved_same v x a,
        same_range in_range v (add binary64 x a) hy,
      ) refl

  step_fits_lem : step_fits 1 (S.Slide 0 a) ≡ true
  unfolding step_fits
  step_fits_lem = refl

  many : eqb (length (replicate v x)) (v * 1) ≡ true
  many = eq-eqb (length (replicate v x)) (v * 1) (length-replicate v x ∙ sym (mul-one v))

  carried : eq x x ≡ true → lt x (add binary64 x a) ≡ true → step_carries slid ≡ true
  unfolding moved_levels
  carried number up = slid-carried v x a number up

  pub slid-accepted : vertices_ok v ≡ true → ltb max_vertices (swept_vertices v 1) ≡ false → ltb room (moved_length slid) ≡ false →
      in_range x ≡ true → in_range a ≡ true → in_range (add binary64 x a) ≡ true → eq x x ≡ true → lt x (add binary64 x a) ≡ true →
      move_outcome slid ≡ accepted (moved_length slid)
  unfolding move_rules
  slid-accepted hv few fits hx ha hy number up =
      sym (accepts slid [] _ _ (rw (hv, many, ha, same_range in_range v x hx, step_fits_lem, few, levels_in hx hy, carried number up, fits)) refl
      refl).0

  pub slid-refused : (h : ℕ) → vertices_ok v ≡ true → steps_ok h ≡ true →
      ltb max_vertices (swept_vertices v h) ≡ true → in_range x ≡ true → in_range a ≡ true →
      move_outcome (move_input 1 v h (S.Slide 0 a) (replicate v x) room) ≡ refused 12
  unfolding move_rules
  slid-refused h hv hh large hx ha =
      sym (refuses (move_input 1 v h (S.Slide 0 a) (replicate v x) room) [] 12
      (rw (hv, hh, many, ha, same_range in_range v x hx, step_fits_lem, large))).0
