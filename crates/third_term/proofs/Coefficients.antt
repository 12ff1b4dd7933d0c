-- The boundary of a sweep in whole coefficients.
use mathlib.Core.Path.{◌≡◌, refl, sym, ap, ap₂, ◌∙◌}
use mathlib.Core.Bool.{Bool, true, false, not, cond}
use mathlib.Core.List.{List, [], ◌∷◌}
use Prim.Native.Nat.{ℕ, zero, suc, ◌+◌, ◌*◌, ◌-◌, ◌≤◌, ◌<◌}
use native.Mathlib.Omega.{arith}
use native.Mathlib.Nat.{add-zero, sub-zero}
use lib.Dec.{ltb}
use lib.IntN.{ℤ, pos, negsuc, sub_ℕ, ◌+ℤ◌, ◌-ℤ◌, neg_ℤ, neg_ℤ-neg_ℤ, neg_ℤ-+ℤ, +ℤ_assoc, +ℤ_comm, pos-+ℤ-pos}
use borrow.Author.Tests.{ltb-true, ltb-false, lt-ltb, le-ltb}
use Rattle.simplex.specs.Cell.{Cell, Row, alternating, cell, times}
use Rattle.simplex.proofs.Each.{All}
use Rattle.simplex.proofs.Rows.{Long}
use Rattle.simplex.proofs.Signs.{not-not, times_comm}
use Rattle.simplex.proofs.Sums.{Functional, plus_on, sum_chain}
use Rattle.solids.proofs.Solid.{Solid}
use Rattle.prism.specs.Cells.{sweep_of, top_copy}
use Rattle.prism.proofs.Level.{at_height, raised}
use Rattle.prism.proofs.Prism.{top}
use Rattle.boundary.specs.Boundary.{own_boundary}
use Rattle.third_term.proofs.BoundarySum.{boundary-sum, swept_boundary}
use Rattle.third_term.proofs.Decides.{raised_zero}

-- the coefficient of a list at a row, by sums
abbrev pub value : Row → List Cell → ℤ
value w cs = pos (sum_chain (plus_on w) true cs) -ℤ pos (sum_chain (plus_on w) false cs)

-- (-1)^d z
abbrev pub times_ℤ : ℕ → ℤ → ℤ
times_ℤ d z = cond (alternating d) z (neg_ℤ z)

diff_sub : (a b : ℕ) → pos a -ℤ pos b ≡ sub_ℕ a b
diff_sub a zero = rw (le-ltb a zero (omega arith), sub-zero a) (ap pos (add-zero a))
diff_sub a (suc b) = refl

sub_eq : (a b c d : ℕ) → a + d ≡ c + b → sub_ℕ a b ≡ sub_ℕ c d
sub_eq a b c d e = go (ltb a b) refl
  where
    go : (t : Bool) → ltb a b ≡ t → cond t (negsuc (b - suc a)) (pos (a - b)) ≡ sub_ℕ c d
    go true h = let l : a < b = ltb-true a b h in rw (lt-ltb c d (omega arith)) (ap negsuc (omega arith))
    go false h = let l : b ≤ a = ltb-false a b h in rw (le-ltb c d (omega arith)) (ap pos (omega arith))

diff_eq : (a b c d : ℕ) → a + d ≡ c + b → pos a -ℤ pos b ≡ pos c -ℤ pos d
diff_eq a b c d e = diff_sub a b ∙ sub_eq a b c d e ∙ sym (diff_sub c d)

diff_neg : (a b : ℕ) → neg_ℤ (pos a -ℤ pos b) ≡ pos b -ℤ pos a
diff_neg a b = neg_ℤ-+ℤ (pos a) (neg_ℤ (pos b)) ∙ +ℤ_comm (neg_ℤ (pos a)) (neg_ℤ (neg_ℤ (pos b))) ∙ ap (λ z. z -ℤ pos a) (neg_ℤ-neg_ℤ (pos b))

diff_add : (a b c d : ℕ) → (pos a -ℤ pos b) +ℤ (pos c -ℤ pos d) ≡ pos (a + c) -ℤ pos (b + d)
diff_add a b c d =
    +ℤ_assoc (pos a) (neg_ℤ (pos b)) (pos c -ℤ pos d)
    ∙ ap (λ z. pos a +ℤ z) (sym (+ℤ_assoc (neg_ℤ (pos b)) (pos c) (neg_ℤ (pos d))) ∙ ap (λ z. z -ℤ pos d) (+ℤ_comm (neg_ℤ (pos b)) (pos c))
    ∙ +ℤ_assoc (pos c) (neg_ℤ (pos b)) (neg_ℤ (pos d)) ∙ ap (λ z. pos c +ℤ z) (sym (neg_ℤ-+ℤ (pos b) (pos d))))
    ∙ sym (+ℤ_assoc (pos a) (pos c) (neg_ℤ (pos b +ℤ pos d))) ∙ ap₂ (λ y z. y -ℤ z) (pos-+ℤ-pos a c) (pos-+ℤ-pos b d)

-- the copies of a solid of dimension d
sum_chain_copy : (f : Functional) (nv i d : ℕ) (b : Bool) (cs : List Cell) → All (Long (suc d)) cs →
    sum_chain (at_height f (i * nv)) b cs ≡ sum_chain f (times (alternating d) b) (top_copy nv i cs)
sum_chain_copy f nv i d b [] a = refl
sum_chain_copy f nv i d b (c ∷ cs) a =
    ap₂ (λ m n. m + n) (ap (λ t. f t (raised (i * nv) c.row)) (ap (λ n. times (not (alternating n)) (times c.sign b)) a.0
    ∙ ap (λ e. times e (times c.sign b)) (not-not (alternating d)) ∙ times_comm (alternating d) c.sign b))
    (sum_chain_copy f nv i d b cs a.1)

copy_zero : (nv : ℕ) (cs : List Cell) → top_copy nv 0 cs ≡ cs
copy_zero nv [] = refl
copy_zero nv (c ∷ cs) = ap₂ {C = List Cell} (λ v r. cell c.sign c.material v ∷ r) (raised_zero nv c.row) (copy_zero nv cs)

pub coefficients : (nv d h : ℕ) (cs : List Cell) → Solid nv cs → All (Long (suc d)) cs → (w : Row) →
    value w (swept_boundary nv h cs) ≡ times_ℤ d (value w (top_copy nv h cs) -ℤ value w cs) +ℤ value w (sweep_of nv h (own_boundary cs))
coefficients nv d h cs s ln w = go (alternating d) (sum_chain_copy (plus_on w) nv h d)
    (λ b. sum_chain_copy (plus_on w) nv 0 d b cs ln ∙ ap (sum_chain (plus_on w) (times (alternating d) b)) (copy_zero nv cs))
  where
    B⁺ : ℕ
    B⁺ = sum_chain (plus_on w) true (swept_boundary nv h cs)

    B⁻ : ℕ
    B⁻ = sum_chain (plus_on w) false (swept_boundary nv h cs)

    R⁺ : ℕ
    R⁺ = sum_chain (plus_on w) true (sweep_of nv h (own_boundary cs))

    R⁻ : ℕ
    R⁻ = sum_chain (plus_on w) false (sweep_of nv h (own_boundary cs))

    t : Bool → ℕ
    t b = sum_chain (plus_on w) b (top_copy nv h cs)

    a : Bool → ℕ
    a b = sum_chain (plus_on w) b cs

    go : (e : Bool) → ((b : Bool) (xs : List Cell) → All (Long (suc d)) xs →
        sum_chain (at_height (plus_on w) (h * nv)) b xs ≡ sum_chain (plus_on w) (times e b) (top_copy nv h xs)) →
        ((b : Bool) → sum_chain (at_height (plus_on w) (0 * nv)) b cs ≡ sum_chain (plus_on w) (times e b) cs) →
        pos B⁺ -ℤ pos B⁻ ≡ cond e ((pos (t true) -ℤ pos (t false)) -ℤ (pos (a true) -ℤ pos (a false)))
        (neg_ℤ ((pos (t true) -ℤ pos (t false)) -ℤ (pos (a true) -ℤ pos (a false)))) +ℤ (pos R⁺ -ℤ pos R⁻)
    go true top bot =
        diff_eq B⁺ B⁻ (t true + a false + R⁺) (t false + a true + R⁻)
        (omega (arith, boundary-sum nv cs s h (plus_on w), top true cs ln, top false cs ln, bot true, bot false))
        ∙ sym (ap (λ z. z +ℤ (pos R⁺ -ℤ pos R⁻)) (ap (λ z. (pos (t true) -ℤ pos (t false)) +ℤ z) (diff_neg (a true) (a false))
        ∙ diff_add (t true) (t false) (a false) (a true)) ∙ diff_add (t true + a false) (t false + a true) R⁺ R⁻)
    go false top bot =
        diff_eq B⁺ B⁻ (t false + a true + R⁺) (t true + a false + R⁻)
        (omega (arith, boundary-sum nv cs s h (plus_on w), top true cs ln, top false cs ln, bot true, bot false))
        ∙ sym (ap (λ z. z +ℤ (pos R⁺ -ℤ pos R⁻)) (ap neg_ℤ (ap (λ z. (pos (t true) -ℤ pos (t false)) +ℤ z) (diff_neg (a true) (a false))
        ∙ diff_add (t true) (t false) (a false) (a true)) ∙ diff_neg (t true + a false) (t false + a true))
        ∙ diff_add (t false + a true) (t true + a false) R⁺ R⁻)
