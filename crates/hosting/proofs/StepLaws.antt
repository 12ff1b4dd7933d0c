-- A step told by numbers, kind by kind.
--   slide_is, slant_is, turn_is               the step
--   in_slide, in_slant, in_turn               its floats, with 0 for those that it does not hold
--   slide_held, slant_held, turn_held         the same floats one by one, where those of the step are in range
--   unused_slide, unused_slant, unused_turn   which parts are to be zero
-- Assumes nothing.
use mathlib.Core.Path.{◌≡◌, refl, ◌∙◌}
use mathlib.Core.Bool.{true}
use mathlib.Core.List.{[], ◌∷◌}
use Prim.Native.Nat.{ℕ}
use native.Mathlib.Omega.{arith}
use lib.Ieee.{nan, binary64, of_bits}
use borrow.Author.Tests.{eq-eqb, ne_eqb}
use Rattle.words.specs.Records.{all_of}
use Rattle.words.proofs.Loops.{all_at}
use Rattle.points.specs.declared.step.Step.TheVariants as S
use Rattle.points.specs.Step.{in_range, step_floats}
use Rattle.points.proofs.Computing.{computing}
use Rattle.hosting.specs.Moves.{told_step, any_set, unused_set}
use Rattle.hosting.specs.declared.step_bits.StepBits.{StepBits}

zero_in : in_range (of_bits binary64 0) ≡ true
unfolding computing
zero_in = refl

-- three floats in range, by their bits
abbrev pub Held : ℕ → ℕ → ℕ → Type 0
Held a b c = (in_range (of_bits binary64 a) ≡ true) × (in_range (of_bits binary64 b) ≡ true) × (in_range (of_bits binary64 c) ≡ true)

held : (a b c : ℕ) → all_of in_range (of_bits binary64 a ∷ of_bits binary64 b ∷ of_bits binary64 c ∷ []) ≡ true → Held a b c
held a b c e =
    let at = all_at in_range nan (of_bits binary64 a ∷ of_bits binary64 b ∷ of_bits binary64 c ∷ []) in
    (at 0 e (omega arith), at 1 e (omega arith), at 2 e (omega arith))

module _ (t : StepBits) where
  module _ (e : t.kind ≡ 1) where
    pub slide_is : told_step t ≡ S.Slide t.axis (of_bits binary64 t.a)
    slide_is = rw (eq-eqb t.kind 1 e) refl

    pub in_slide : all_of in_range (of_bits binary64 t.a ∷ of_bits binary64 0 ∷ of_bits binary64 0 ∷ []) ≡ all_of in_range (step_floats (told_step t))
    in_slide = rw (eq-eqb t.kind 1 e, zero_in) refl

    pub slide_held : all_of in_range (step_floats (told_step t)) ≡ true → Held t.a 0 0
    slide_held ranged = held t.a 0 0 (in_slide ∙ ranged)

    pub unused_slide : any_set t.other t.b t.c ≡ unused_set t
    unused_slide = rw (eq-eqb t.kind 1 e) refl

  module _ (n : t.kind ≡ 1 → ⊥) (e : t.kind ≡ 2) where
    pub slant_is : told_step t ≡ S.Slant t.axis (of_bits binary64 t.a) t.other (of_bits binary64 t.b)
    slant_is = rw (ne_eqb t.kind 1 n, eq-eqb t.kind 2 e) refl

    pub in_slant : all_of in_range (of_bits binary64 t.a ∷ of_bits binary64 t.b ∷ of_bits binary64 0 ∷ [])
        ≡ all_of in_range (step_floats (told_step t))
    in_slant = rw (ne_eqb t.kind 1 n, eq-eqb t.kind 2 e, zero_in) refl

    pub slant_held : all_of in_range (step_floats (told_step t)) ≡ true → Held t.a t.b 0
    slant_held ranged = held t.a t.b 0 (in_slant ∙ ranged)

    pub unused_slant : any_set 0 0 t.c ≡ unused_set t
    unused_slant = rw (ne_eqb t.kind 1 n, eq-eqb t.kind 2 e) refl

  module _ (n : t.kind ≡ 1 → ⊥) (e : t.kind ≡ 2 → ⊥) where
    pub turn_is : told_step t ≡ S.Turn (record { c = of_bits binary64 t.a; s = of_bits binary64 t.b; rise = of_bits binary64 t.c })
    turn_is = rw (ne_eqb t.kind 1 n, ne_eqb t.kind 2 e) refl

    pub in_turn : all_of in_range (of_bits binary64 t.a ∷ of_bits binary64 t.b ∷ of_bits binary64 t.c ∷ [])
        ≡ all_of in_range (step_floats (told_step t))
    in_turn = rw (ne_eqb t.kind 1 n, ne_eqb t.kind 2 e) refl

    pub turn_held : all_of in_range (step_floats (told_step t)) ≡ true → Held t.a t.b t.c
    turn_held ranged = held t.a t.b t.c (in_turn ∙ ranged)

    pub unused_turn : any_set t.axis t.other 0 ≡ unused_set t
    unused_turn = rw (ne_eqb t.kind 1 n, ne_eqb t.kind 2 e) refl
