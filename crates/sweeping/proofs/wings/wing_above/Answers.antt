-- `wing_above` is `wing_above`. Assumes nothing.
use Rattle.std.proofs.Common.{◌≡◌, ℕ, suc, refl, ap, ◌∙◌, add-one, arith, le-ltb, lt-ltb, eq-eqb, ne_eqb}
use Rattle.prism.specs.Wings.{cell_number}
use Rattle.sweeping.proofs.wings.wing_above.Goals as goal

pub returns-then-k-d : goal.returns-then-k-d
returns-then-k-d c =
    let a = c.args in
    rw (lt-ltb _ _ c.if-k-d.true) (c.cell_number.ensures ∙ ap (λ (n : ℕ). cell_number a.d a.s a.i a.p n) (add-one _))

pub returns-then-i-h : goal.returns-then-i-h
returns-then-i-h c =
    let last : suc c.args.i ≡ c.args.h = omega arith in
    rw (le-ltb _ _ c.if-k-d.false, eq-eqb (suc _) _ last) refl

pub returns : goal.returns
returns c =
    let a = c.args in
    let more : suc a.i ≡ a.h → ⊥ = λ e. c.if-i-h.false (omega arith) in
    rw (le-ltb _ _ c.if-k-d.false, ne_eqb (suc _) _ more)
    (c.cell_number-2.ensures ∙ ap (λ (n : ℕ). cell_number a.d a.s n a.p 0) (add-one a.i))
