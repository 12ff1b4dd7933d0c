-- The step and the unused parts of a header, kind by kind. Assumes nothing.
--   slide_of, slant_of, turn_of_lem               the step
--   unused_slide, unused_slant, unused_turn   which parts are to be zero
use mathlib.Core.Path.{◌≡◌, refl}
use mathlib.Core.Bool.{◌||◌}
use mathlib.Core.List.{List}
use Prim.Native.Nat.{ℕ}
use borrow.Author.Tests.{eq-eqb, ne_eqb}
use Rattle.points.specs.declared.step.Step.TheVariants as S
use Rattle.file.specs.File.{kind_of, axis_of, amount_of, step_of, axis_set, amount_set, unused_set}

module _ (b : List ℕ) where
  pub slide_of : kind_of b ≡ 1 → step_of b ≡ S.Slide (axis_of b 0) (amount_of b 0)
  slide_of e = rw (eq-eqb (kind_of b) 1 e) refl

  pub unused_slide : kind_of b ≡ 1 → unused_set b ≡ (axis_set b 1 || (amount_set b 1 || amount_set b 2))
  unused_slide e = rw (eq-eqb (kind_of b) 1 e) refl

  module _ (n : kind_of b ≡ 1 → ⊥) where
    pub slant_of : kind_of b ≡ 2 → step_of b ≡ S.Slant (axis_of b 0) (amount_of b 0) (axis_of b 1) (amount_of b 1)
    slant_of e = rw (ne_eqb (kind_of b) 1 n, eq-eqb (kind_of b) 2 e) refl

    pub unused_slant : kind_of b ≡ 2 → unused_set b ≡ amount_set b 2
    unused_slant e = rw (ne_eqb (kind_of b) 1 n, eq-eqb (kind_of b) 2 e) refl

    pub turn_of_lem : (kind_of b ≡ 2 → ⊥) → step_of b ≡ S.Turn (record { c = amount_of b 0; s = amount_of b 1; rise = amount_of b 2 })
    turn_of_lem k = rw (ne_eqb (kind_of b) 1 n, ne_eqb (kind_of b) 2 k) refl

    pub unused_turn : (kind_of b ≡ 2 → ⊥) → unused_set b ≡ (axis_set b 0 || axis_set b 1)
    unused_turn k = rw (ne_eqb (kind_of b) 1 n, ne_eqb (kind_of b) 2 k) refl
