-- Steps of the search for the position back, from the last on: what is found among the positions from b on.
--   back_none             from d + 1 on there is none
--   back-here, back_next  the position before b is taken, or what was found before
--   back_all              from 0 on it is the position back
-- Assumes nothing.
use Rattle.std.proofs.Common.{◌≡◌, ℕ, suc, ◌+◌, ◌-◌, ◌<◌, ◌≤◌, sym, refl, ap, ◌∙◌, arith, eq-eqb, ne_eqb}
use Rattle.prism.specs.Wings.{back_from, back_to}

module _ (wing : ℕ → ℕ → ℕ) (p q d : ℕ) where
  -- what is found from position b on
  abbrev pub back_after : ℕ → ℕ
  back_after b = back_from wing p q b (d + 1 - b)

  pub back_none : d + 1 ≡ back_after (d + 1)
  back_none = let none : 0 ≡ d + 1 - (d + 1) = omega arith in ap (back_from wing p q (d + 1)) none

  module _ (b : ℕ) (some : 0 < b) (h : b ≤ d + 1) where
    left_is : d + 1 - (b - 1) ≡ suc (d + 1 - b)
    left_is = omega arith

    pub back-here : wing q (b - 1) ≡ p → b - 1 ≡ back_after (b - 1)
    back-here e = sym (ap (back_from wing p q (b - 1)) left_is ∙ rw (eq-eqb (wing q (b - 1)) p e) refl)

    pub back_next : (wing q (b - 1) ≡ p → ⊥) → back_after b ≡ back_after (b - 1)
    back_next n =
        let next : suc (b - 1) ≡ b = omega arith in
        sym (ap (back_from wing p q (b - 1)) left_is
        ∙ rw (ne_eqb (wing q (b - 1)) p n) (ap (λ k. back_from wing p q k (d + 1 - b)) next))

  pub back_all : back_after 0 ≡ back_to wing p q d
  back_all = let all : d + 1 - 0 ≡ suc d = omega arith in ap (back_from wing p q 0) all
