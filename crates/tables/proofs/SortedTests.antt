-- Rows 7 and 8 told from the sorted row: its last vertex is the largest, and it ascends where no vertex stands twice.
--   falls_in d u       whether one of the first d vertices is not below the next
use mathlib.Core.Path.{◌≡◌, refl, sym, ap, ◌∙◌, subst}
use mathlib.Core.Bool.{Bool, true, false, ◌||◌, true≢false}
use mathlib.Core.List.{[], ◌∷◌}
use Prim.Native.Nat.{ℕ, zero, suc, ◌+◌, ◌≤◌, ◌<◌}
use native.Mathlib.Omega.{arith}
use native.Mathlib.Nat.{le_of_suc-le-suc, not-suc-le-zero}
use lib.Dec.{eqb, leb}
use lib.ListN.{length, get_or}
use lib.Seq.{take_all}
use borrow.Author.Tests.{eqb-true, eq-eqb, le-leb, lt-leb, leb-true, leb-false}
use Rattle.words.specs.Records.{any_of, any_below}
use Rattle.simplex.specs.Cell.{Row, one}
use Rattle.simplex.specs.Order.{sorted}
use Rattle.simplex.specs.Sort.{Asc, Up, occurs}
use Rattle.simplex.proofs.Sorting.{sorted_ascends, sorted-length, sorted-occurs, sorted-up}
use Rattle.simplex.proofs.Up.{up_reach}
use Rattle.solids.specs.Accept.{repeats}
use Rattle.words.proofs.Below.{below_false, none_below, true_unless}
use Rattle.solids.proofs.Tests.{asc_once, once-each, or_false}

-- a test that fails at every vertex of a row fails at the row
any_none : (q : ℕ → Bool) (w : Row) → ((x : ℕ) → 1 ≤ occurs x w → q x ≡ false) → any_of q w ≡ false
any_none q [] h = refl
any_none q (x ∷ w) h = rw (h x (rw (eq-eqb x x refl) (omega arith))) (any_none q w (λ y l. h y (omega arith)))

none_any : (q : ℕ → Bool) (w : Row) → any_of q w ≡ false → (x : ℕ) → 1 ≤ occurs x w → q x ≡ false
none_any q [] e x l = absurd (not-suc-le-zero l)
none_any q (y ∷ w) e x l = let r = or_false (q y) (any_of q w) e in go (eqb y x) refl l r.0 (none_any q w r.1 x)
  where
    go : (t : Bool) → eqb y x ≡ t → 1 ≤ one t + occurs x w → q y ≡ false → (1 ≤ occurs x w → q x ≡ false) → q x ≡ false
    go true k l h j = subst (λ z. q z ≡ false) (eqb-true y x k) h
    go false k l h j = j (omega arith)

-- a test does not see the order of a row
any_same : (q : ℕ → Bool) (v w : Row) → ((x : ℕ) → occurs x v ≡ occurs x w) → any_of q v ≡ any_of q w
any_same q v w h = go (any_of q w) refl
  where
    go : (t : Bool) → any_of q w ≡ t → any_of q v ≡ t
    go false e = any_none q v (λ x l. none_any q w e x (omega (arith, h x)))
    go true e = true_unless (any_of q v) (λ k. true≢false (sym e ∙ any_none q w (λ x l. none_any q v k x (omega (arith, h x)))))

largest : (v d : ℕ) (w : Row) → Up w → length w ≡ suc d → any_of (λ x. leb v x) w ≡ leb v (get_or w d 0)
largest v d [] u e = absurd (omega arith)
largest v zero (x ∷ []) u e = go (leb v x)
  where
    go : (t : Bool) → (t || false) ≡ t
    go true = refl
    go false = refl
largest v (suc d) (x ∷ []) u e = absurd (omega arith)
largest v zero (x ∷ (y ∷ w)) u e = absurd (omega arith)
largest v (suc d) (x ∷ (y ∷ w)) u e =
    ap (λ t. leb v x || t) (largest v d (y ∷ w) u.1 (omega arith))
    ∙ go (leb v x) refl (up_reach x d (y ∷ w) (omega arith) (subst (λ r. Up (x ∷ r)) (sym (take_all (suc d) (y ∷ w) (omega arith))) u))
  where
    go : (t : Bool) → leb v x ≡ t → x ≤ get_or (y ∷ w) d 0 → (t || leb v (get_or (y ∷ w) d 0)) ≡ leb v (get_or (y ∷ w) d 0)
    go true k l = sym (le-leb v (get_or (y ∷ w) d 0) (omega (arith, leb-true v x k)))
    go false k l = refl

-- 7: a vertex is v or above exactly where the last of the sorted row is
pub beyond_last : (v d : ℕ) (w : Row) → length w ≡ suc d → any_of (λ x. leb v x) w ≡ leb v (get_or (sorted w) d 0)
beyond_last v d w e = any_same (λ x. leb v x) w (sorted w) (λ x. sym (sorted-occurs x w)) ∙ largest v d (sorted w) (sorted-up w) (sorted-length w ∙ e)

abbrev pub falls_in : ℕ → Row → Bool
falls_in d u = any_below d (λ j. leb (get_or u (suc j) 0) (get_or u j 0))

step-below : (u : Row) (d : ℕ) → falls_in d u ≡ false → (j : ℕ) → j < d → get_or u j 0 < get_or u (suc j) 0
step-below u d e j h = go (leb (get_or u (suc j) 0) (get_or u j 0)) refl
  where
    go : (t : Bool) → leb (get_or u (suc j) 0) (get_or u j 0) ≡ t → get_or u j 0 < get_or u (suc j) 0
    go true k = absurd (below_false (λ j. leb (get_or u (suc j) 0) (get_or u j 0)) d e j h k)
    go false k = leb-false (get_or u (suc j) 0) (get_or u j 0) k

steps_asc : (d : ℕ) (u : Row) → length u ≡ suc d → ((j : ℕ) → j < d → get_or u j 0 < get_or u (suc j) 0) → Asc u
steps_asc d [] e h = tt
steps_asc d (x ∷ []) e h = tt
steps_asc zero (x ∷ (y ∷ u)) e h = absurd (omega arith)
steps_asc (suc d) (x ∷ (y ∷ u)) e h = (h 0 (omega arith), steps_asc d (y ∷ u) (omega arith) (λ j l. h (suc j) (omega arith)))

asc_steps : (u : Row) → Asc u → (j : ℕ) → suc j < length u → get_or u j 0 < get_or u (suc j) 0
asc_steps [] a j h = absurd (not-suc-le-zero h)
asc_steps (x ∷ []) a j h = absurd (not-suc-le-zero (le_of_suc-le-suc h))
asc_steps (x ∷ (y ∷ u)) a zero h = a.0
asc_steps (x ∷ (y ∷ u)) a (suc j) h = asc_steps (y ∷ u) a.1 j (le_of_suc-le-suc h)

-- a row ascends exactly where no vertex falls
pub falls_not : (d : ℕ) (u : Row) → length u ≡ suc d → falls_in d u ≡ false → Asc u
falls_not d u e k = steps_asc d u e (step-below u d k)

pub not_falls : (d : ℕ) (u : Row) → length u ≡ suc d → Asc u → falls_in d u ≡ false
not_falls d u e a =
    none_below (λ j. leb (get_or u (suc j) 0) (get_or u j 0)) d (λ j h. lt-leb (get_or u (suc j) 0) (get_or u j 0) (asc_steps u a j (omega arith)))

no_repeats : (w : Row) → ((x : ℕ) → occurs x w ≤ 1) → repeats w ≡ false
no_repeats [] h = refl
no_repeats (x ∷ w) h = rw (any_none (eqb x) w (λ y l. other y l (eqb x y) refl)) (no_repeats w (λ y. omega (arith, h y)))
  where
    other : (y : ℕ) → 1 ≤ occurs y w → (t : Bool) → eqb x y ≡ t → t ≡ false
    other y l true k = absurd (omega (arith, h y, ap one k))
    other y l false k = refl

-- 8: a vertex stands twice exactly where the sorted row does not ascend
pub twice-falls : (d : ℕ) (w : Row) → length w ≡ suc d → repeats w ≡ falls_in d (sorted w)
twice-falls d w e = go (falls_in d (sorted w)) refl
  where
    long : length (sorted w) ≡ suc d
    long = sorted-length w ∙ e

    go : (t : Bool) → falls_in d (sorted w) ≡ t → repeats w ≡ t
    go true k = true_unless (repeats w) (λ z. true≢false (sym k ∙ not_falls d (sorted w) long (sorted_ascends w (once-each w z))))
    go false k = no_repeats w (λ x. omega (arith, sorted-occurs x w, once-each (sorted w) (asc_once (sorted w) (falls_not d (sorted w) long k)) x))
