-- The step at a point.
--   fits_slide, fits_slant, fits_turn     what the rule of a step says of its axes
--   length-add, length-turned, length_moved       a moved point has as many axes
-- Assumes nothing.
use mathlib.Core.Path.{◌≡◌, ◌∙◌}
use mathlib.Core.Bool.{true, not, ◌&&◌}
use mathlib.Core.List.{List}
use Prim.Native.Nat.{ℕ, ◌-◌, ◌<◌, ◌≤◌}
use lib.Dec.{eqb, leb, ltb}
use lib.Ieee.{Float}
use lib.ListN.{length, length-set}
use borrow.Author.Tests.{eqb-false, ltb-true, leb-true, not-true}
use Rattle.rules.proofs.Tests.{and_parts}
use Rattle.points.specs.Step.{on_circle, step_fits, add_at, turned, moved_point}
use Rattle.points.specs.declared.step.Step.{Step}
use Rattle.points.specs.declared.step.Step.TheVariants as S
use Rattle.points.specs.declared.step.Turn.{Turn}

module _ (n : ℕ) (step : Step) where
  pub fits_slide : (a : ℕ) (x : Float) → step ≡ S.Slide a x → step_fits n step ≡ true → a < n
  unfolding step_fits
  fits_slide a x s e = ltb-true a n (rw s at e)

  pub fits_slant : (a : ℕ) (x : Float) (b : ℕ) (y : Float) → step ≡ S.Slant a x b y → step_fits n step ≡ true →
      (a < n) × (b < n) × (a ≡ b → ⊥)
  unfolding step_fits
  fits_slant a x b y s e =
      let parts = and_parts (not (eqb a b)) (ltb a n && ltb b n) (rw s at e) in
      let axes = and_parts (ltb a n) (ltb b n) parts.1 in
      (ltb-true a n axes.0, ltb-true b n axes.1, eqb-false a b (not-true (eqb a b) parts.0))

  pub fits_turn : (t : Turn) → step ≡ S.Turn t → step_fits n step ≡ true → 3 ≤ n
  unfolding step_fits
  fits_turn t s e = leb-true 3 n (and_parts (leb 3 n) (on_circle t) (rw s at e)).0

pub length-add : (a : ℕ) (x : Float) (p : List Float) → length (add_at a x p) ≡ length p
unfolding add_at
length-add a x p = simp length-set

pub length-turned : (t : Turn) (p : List Float) → length (turned t p) ≡ length p
unfolding turned
length-turned t p = simp length-set

pub length_moved : (step : Step) (n : ℕ) (p : List Float) → length (moved_point step n p) ≡ length p
unfolding moved_point
length_moved (S.Slide a x) n p = length-add a x p
length_moved (S.Slant a x b y) n p = length-add b y (add_at a x p) ∙ length-add a x p
length_moved (S.Turn t) n p = length-add (n - 1) t.rise (turned t p) ∙ length-turned t p
