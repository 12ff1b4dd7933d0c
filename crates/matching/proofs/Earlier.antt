-- The last earlier key, found along links. of f is the number by which key f is linked, key f its row.
--   from q x          `last_below q`, told from the last index x at which a weaker test passes
--   rank f            falls along the links
--   Walk key g f      the links from key g have been followed to f, and the answer lies at f or before
use mathlib.Core.Path.{◌≡◌, refl, sym, ap, subst⁻¹, ◌∙◌}
use mathlib.Core.Logic.{⊎_elim, ◌⊎◌, inl, inr}
use mathlib.Core.Bool.{Bool, true, false, cond}
use Prim.Native.Nat.{ℕ, zero, suc, ◌≤◌, ◌<◌}
use native.Mathlib.Nat.{lt-suc_self, lt_trans, ne_of_lt, eq-or-lt_of_le, le_of_suc-le-suc, not-suc-le-zero}
use native.Mathlib.Omega.{arith}
use lib.Dec.{eqb}
use borrow.Author.Tests.{eqb-true, eqb-false, eq-eqb, ne_eqb}
use Rattle.simplex.specs.Cell.{Row, same_row}
use Rattle.simplex.proofs.Rows.{same_row_true}
use Rattle.matching.specs.Inner.Matching.{last_below}
use Rattle.matching.specs.Inner.Buckets.{bucket_of, bucket_at}
use Rattle.matching.specs.Inner.Links.{last_of}

abbrev pub from : (ℕ → Bool) → ℕ → ℕ
from q x = cond (eqb x 65535) 65535 (last_below q (suc x))

-- where the weaker test r fails so does q: `last_below q` may start where r passed last
pub skip : (q r : ℕ → Bool) → ((i : ℕ) → r i ≡ false → q i ≡ false) → (m : ℕ) → m ≤ 65535 →
    last_below q m ≡ from q (last_below r m)
skip q r weaker zero l = refl
skip q r weaker (suc m) l = go (skip q r weaker m (omega arith)) (r m) refl
  where
    go : last_below q m ≡ from q (last_below r m) → (t : Bool) → r m ≡ t → cond (q m) m (last_below q m) ≡ from q (cond t m (last_below r m))
    go ih true e = sym (ap (λ (t : Bool). cond t 65535 (last_below q (suc m))) (ne_eqb m 65535 (ne_of_lt l)))
    go ih false e = ap (λ (t : Bool). cond t m (last_below q m)) (weaker m e) ∙ ih

-- there is none, or the test passes at it
abbrev Passes : (ℕ → Bool) → ℕ → ℕ → Type 0
Passes q m x = (x ≡ 65535) ⊎ ((x < m) × (q x ≡ true))

pub last_passes : (q : ℕ → Bool) (m : ℕ) → Passes q m (last_below q m)
last_passes q zero = inl refl
last_passes q (suc m) = go (last_passes q m) (q m) refl
  where
    go : Passes q m (last_below q m) → (t : Bool) → q m ≡ t → Passes q (suc m) (cond t m (last_below q m))
    go ih true e = inr (lt-suc_self m, e)
    go ih false e = ⊎_elim (λ h. inl h) (λ h. inr (lt_trans h.0 (lt-suc_self m), h.1)) ih

-- an index at which the test passes is at most the last
pub last_bounds : (q : ℕ → Bool) (m i : ℕ) → i < m → q i ≡ true → (last_below q m < m) × (i ≤ last_below q m)
last_bounds q zero i h p = absurd (not-suc-le-zero h)
last_bounds q (suc m) i h p = go (last_bounds q m i) (q m) refl
  where
    go : (i < m → q i ≡ true → (last_below q m < m) × (i ≤ last_below q m)) → (t : Bool) →
        q m ≡ t → (cond t m (last_below q m) < suc m) × (i ≤ cond t m (last_below q m))
    go ih true e = omega arith
    go ih false e =
        ⊎_elim
        (λ x. let y : false ≡ true = sym e ∙ ap q (sym x) ∙ p in let z : ◌≡◌ {A = ℕ} 0 1 = cc in absurd (omega arith))
        (λ l. (lt_trans (ih l p).0 (lt-suc_self m), (ih l p).1))
        (eq-or-lt_of_le (le_of_suc-le-suc h))

from_at : (q : ℕ → Bool) (f : ℕ) → (f ≡ 65535 → ⊥) → from q f ≡ cond (q f) f (last_below q f)
from_at q f n = ap (λ (t : Bool). cond t 65535 (last_below q (suc f))) (ne_eqb f 65535 n)

abbrev pub rank : ℕ → ℕ
rank f = cond (eqb f 65535) 0 (suc f)

pub rank_is : (f : ℕ) → f < 65535 → rank f ≡ suc f
rank_is f l = ap (λ (t : Bool). cond t 0 (suc f)) (ne_eqb f 65535 (ne_of_lt l))

pub rank_none : (f : ℕ) → f ≡ 65535 → rank f ≡ 0
rank_none f e = ap (λ (t : Bool). cond t 0 (suc f)) (eq-eqb f 65535 e)

-- x is the last key before m of number b
module _ (of : ℕ → ℕ) (b m x : ℕ) (few : m ≤ 65535) (e : x ≡ last_of of b m) where
  abbrev like : ℕ → Bool
  like f = eqb (of f) b

  -- it has that number, if there is one
  pub last_of_lem : (x ≡ 65535) ⊎ ((x < m) × (of x ≡ b))
  unfolding last_of
  last_of_lem =
      subst⁻¹ (λ (y : ℕ). (y ≡ 65535) ⊎ ((y < m) × (of y ≡ b))) e
      (⊎_elim (λ h. inl h) (λ h. inr (h.0, eqb-true _ _ h.1)) (last_passes like m))

  pub rank_under : rank x ≤ m
  rank_under = ⊎_elim (λ h. omega (arith, rank_none x h)) (λ h. omega (arith, rank_is x (omega (arith, h.0)), h.0)) last_of_lem

  -- no key of that number is above it
  pub none_above : (g : ℕ) → g < m → of g ≡ b → rank x ≤ g → ⊥
  unfolding last_of
  none_above g l h r =
      let n = last_bounds like m g l (eq-eqb _ _ h) in
      let y : x ≡ last_below like m = e in
      omega (arith, n.0, n.1, rank_is x (omega (arith, n.0)))

module _ (key : ℕ → Row) (g : ℕ) where
  abbrev same : ℕ → Bool
  same f = same_row (key f) (key g)

  abbrev near : ℕ → Bool
  near f = eqb (bucket_of (key f)) (bucket_of (key g))

  -- a key of another bucket has another row
  far : (f : ℕ) → near f ≡ false → same f ≡ false
  far f h = go (same f) refl
    where
      go : (t : Bool) → same f ≡ t → t ≡ false
      go true e = absurd (eqb-false _ _ h (ap bucket_of (same_row_true (key f) (key g) e)))
      go false e = refl

  abbrev pub Walk : ℕ → Type 0
  Walk f = (last_below same g ≡ from same f) × ((f ≡ 65535) ⊎ ((f < g) × (bucket_of (key f) ≡ bucket_of (key g))))

  pub walk_start : (x : ℕ) → g < 65535 → x ≡ last_of (bucket_at key) (bucket_of (key g)) g → Walk x
  unfolding last_of
  walk_start x l e =
      subst⁻¹ Walk e (skip same near far g (omega arith), ⊎_elim (λ h. inl h) (λ h. inr (h.0, eqb-true _ _ h.1)) (last_passes near g))

  pub walk_below : (f : ℕ) → Walk f → (f ≡ 65535 → ⊥) → (f < g) × (bucket_of (key f) ≡ bucket_of (key g))
  walk_below f h n = ⊎_elim (λ e. absurd (n e)) (λ b. b) h.1

  pub walk_found : (f : ℕ) → Walk f → (f ≡ 65535 → ⊥) → same f ≡ true → last_below same g ≡ f
  walk_found f h n s = h.0 ∙ from_at same f n ∙ ap (λ (t : Bool). cond t f (last_below same f)) s

  pub walk_end : (f : ℕ) → Walk f → f ≡ 65535 → last_below same g ≡ 65535
  walk_end f h e = h.0 ∙ ap (λ (t : Bool). cond t 65535 (last_below same (suc f))) (eq-eqb f 65535 e)

  pub walk_next : (f x : ℕ) → g < 65535 → Walk f → (f ≡ 65535 → ⊥) → same f ≡ false →
      x ≡ last_of (bucket_at key) (bucket_of (key f)) f → Walk x
  unfolding last_of
  walk_next f x l h n s e =
      let b = walk_below f h n in
      subst⁻¹ Walk (e ∙ ap (λ (c : ℕ). last_of (bucket_at key) c f) b.1) (
        h.0 ∙ from_at same f n ∙ ap (λ (t : Bool). cond t f (last_below same f)) s ∙ skip same near far f (omega (arith, b.0)),
        ⊎_elim (λ i. inl i) (λ i. inr (lt_trans i.0 b.0, eqb-true _ _ i.1)) (last_passes near f),
      )
