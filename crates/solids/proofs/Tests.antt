-- What the tests of a list of cells say, each both ways.
use mathlib.Core.Path.{◌≡◌, ap, ap₂, refl, subst, sym}
use mathlib.Core.Bool.{◌&&◌, Bool, false, true, true≢false, ◌||◌}
use Prim.Native.Nat.{◌+◌, ℕ, ◌≤◌}
use mathlib.Core.List.{List, [], ◌∷◌}
use native.Mathlib.Omega.{arith}
use lib.Dec.{eqb, leb, ltb}
use borrow.Author.Tests.{eqb-false, eqb-true, le-ltb, leb-false, lt-leb, ltb-false, ne_eqb}
use mathlib.Core.Logic.{inl, inr, ◌⊎◌}
use Rattle.words.specs.Records.{any_of}
use Rattle.rules.proofs.Tests.{and_parts}
use Rattle.simplex.specs.Cell.{Cell, Row, Sign, one, same_row, times}
use Rattle.simplex.specs.Chain.{count_on, total}
use Rattle.simplex.specs.Sort.{Asc, occurs}
use Rattle.simplex.proofs.Each.{All, Each, each_map}
use Rattle.simplex.proofs.Rows.{Below, same_row_true}
use Rattle.simplex.proofs.Signs.{times-same}
use Rattle.simplex.proofs.Sums.{plus_on, sum_chain}
use Rattle.simplex.proofs.Without.{asc_tail}
use Rattle.solids.specs.Accept.{equal_signs, repeats, vertex_beyond}

pub or_false : (a b : Bool) → (a || b) ≡ false → (a ≡ false) × (b ≡ false)
or_false true b e = absurd (true≢false e)
or_false false b e = (refl, e)

pub none_of : {A : Type 0} (q : A → Bool) (xs : List A) → any_of q xs ≡ false → Each (λ x. q x ≡ false) xs
none_of q [] e = tt
none_of q (x ∷ xs) e = let r = or_false (q x) (any_of q xs) e in (r.0, none_of q xs r.1)

pub of_none : {A : Type 0} (q : A → Bool) (xs : List A) → Each (λ x. q x ≡ false) xs → any_of q xs ≡ false
of_none q [] a = refl
of_none q (x ∷ xs) a = rw a.0 (of_none q xs a.1)

-- 7: no vertex is nv or above
below_is : (nv : ℕ) (w : Row) → any_of (λ x. leb nv x) w ≡ false → Below nv w
below_is nv [] e = tt
below_is nv (x ∷ w) e = let r = or_false (leb nv x) (any_of (λ x. leb nv x) w) e in (leb-false nv x r.0, below_is nv w r.1)

is_below : (nv : ℕ) (w : Row) → Below nv w → any_of (λ x. leb nv x) w ≡ false
is_below nv [] b = refl
is_below nv (x ∷ w) b = rw (lt-leb nv x b.0) (is_below nv w b.1)

pub all_below : (nv : ℕ) (cs : List Cell) → vertex_beyond nv cs ≡ false → All (Below nv) cs
all_below nv cs e = each_map (λ c. any_of (λ x. leb nv x) c.row ≡ false) (λ c. Below nv c.row) cs
    (λ c k. below_is nv c.row k) (none_of (λ c. any_of (λ x. leb nv x) c.row) cs e)

pub below_all : (nv : ℕ) (cs : List Cell) → All (Below nv) cs → vertex_beyond nv cs ≡ false
below_all nv cs a = of_none (λ c. any_of (λ x. leb nv x) c.row) cs
    (each_map (λ c. Below nv c.row) (λ c. any_of (λ x. leb nv x) c.row ≡ false) cs (λ c k. is_below nv c.row k) a)

-- 8: no vertex twice in a cell
absent : (x : ℕ) (w : Row) → any_of (eqb x) w ≡ false → occurs x w ≡ 0
absent x [] e = refl
absent x (y ∷ w) e =
    let r = or_false (eqb x y) (any_of (eqb x) w) e in
    rw (ne_eqb y x (λ z. eqb-false x y r.0 (sym z))) (omega (arith, absent x w r.1))

pub once-each : (w : Row) → repeats w ≡ false → (x : ℕ) → occurs x w ≤ 1
once-each [] e x = omega arith
once-each (y ∷ w) e x = let r = or_false (any_of (eqb y) w) (repeats w) e in go r.0 (once-each w r.1 x) (eqb y x) refl
  where
    go : any_of (eqb y) w ≡ false → occurs x w ≤ 1 → (t : Bool) → eqb y x ≡ t → one t + occurs x w ≤ 1
    go n l true k = omega (arith, subst (λ z. occurs z w ≡ 0) (eqb-true y x k) (absent y w n))
    go n l false k = omega arith

-- an ascending row has no vertex twice
above_all : (x : ℕ) (w : Row) → Asc (x ∷ w) → any_of (eqb x) w ≡ false
above_all x [] s = refl
above_all x (y ∷ []) s = rw (ne_eqb x y (λ e. omega arith)) refl
above_all x (y ∷ (z ∷ w)) s = rw (ne_eqb x y (λ e. omega arith)) (above_all x (z ∷ w) (omega arith, s.1.1))

pub asc_once : (w : Row) → Asc w → repeats w ≡ false
asc_once [] s = refl
asc_once (x ∷ w) s = rw (above_all x w s) (asc_once w (asc_tail x w s))

-- 9 to 11: what holds of the rows of a list, and of the rows that it has not, holds of all
pub seen : (R : Row → Type 0) (w : Row) (cs : List Cell) → All R cs → (total w cs ≡ 0) ⊎ R w
seen R w [] a = inl refl
seen R w (c ∷ cs) a = go (same_row c.row w) (same_row_true c.row w) (seen R w cs a.1)
  where
    go : (t : Bool) → (t ≡ true → c.row ≡ w) → (total w cs ≡ 0) ⊎ R w → (one t + total w cs ≡ 0) ⊎ R w
    go true h r = inr (subst R (h refl) a.0)
    go false h (inl e) = inl (omega arith)
    go false h (inr g) = inr g

-- no row stands more than n times in the list
pub few_of : (n : ℕ) (cs : List Cell) → any_of (λ c. ltb n (total c.row cs)) cs ≡ false → (w : Row) → total w cs ≤ n
few_of n cs e w = go (seen (λ v. total v cs ≤ n) w cs (each_map (λ c. ltb n (total c.row cs) ≡ false) (λ c. total c.row cs ≤ n)
    cs (λ c k. ltb-false n (total c.row cs) k) (none_of (λ c. ltb n (total c.row cs)) cs e)))
  where
    go : (total w cs ≡ 0) ⊎ (total w cs ≤ n) → total w cs ≤ n
    go (inl z) = omega arith
    go (inr l) = l

pub of_few : (n : ℕ) (L : List Cell) → ((w : Row) → total w L ≤ n) → (cs : List Cell) → any_of (λ c. ltb n (total c.row L)) cs ≡ false
of_few n L h [] = refl
of_few n L h (c ∷ cs) = rw (le-ltb n (total c.row L) (h c.row)) (of_few n L h cs)

-- the count of a signed cell, as a sum
pub count-sum : (s : Sign) (w : Row) (cs : List Cell) → count_on s w cs ≡ sum_chain (plus_on w) s cs
count-sum s w [] = refl
count-sum s w (c ∷ cs) = ap (λ n. one (times c.sign s && same_row c.row w) + n) (count-sum s w cs)

-- signed cells of a list that stand once
once-signed : (s : Sign) (w : Row) (L cs : List Cell) →
    Each (λ c. ltb 1 (count_on c.sign c.row L) ≡ false) cs → (count_on s w cs ≡ 0) ⊎ (count_on s w L ≤ 1)
once-signed s w L [] a = inl refl
once-signed s w L (c ∷ cs) a = go (times c.sign s && same_row c.row w) hit (once-signed s w L cs a.1)
  where
    hit : (times c.sign s && same_row c.row w) ≡ true → count_on s w L ≤ 1
    hit k =
        let r = and_parts (times c.sign s) (same_row c.row w) k in
        let e = ap₂ (λ s w. count_on s w L) (times-same c.sign s r.0) (same_row_true c.row w r.1) in
        omega (arith, ltb-false 1 (count_on c.sign c.row L) a.0)

    go : (t : Bool) → (t ≡ true → count_on s w L ≤ 1) → (count_on s w cs ≡ 0) ⊎ (count_on s w L ≤ 1) →
        (one t + count_on s w cs ≡ 0) ⊎ (count_on s w L ≤ 1)
    go true h r = inr (h refl)
    go false h (inl z) = inl (omega arith)
    go false h (inr l) = inr l

-- 11: no face has one sign twice
pub signs-once : (F : List Cell) → equal_signs F ≡ false → (s : Sign) (w : Row) → sum_chain (plus_on w) s F ≤ 1
signs-once F e s w = go (once-signed s w F F (none_of (λ f. ltb 1 (count_on f.sign f.row F)) F e))
  where
    go : (count_on s w F ≡ 0) ⊎ (count_on s w F ≤ 1) → sum_chain (plus_on w) s F ≤ 1
    go (inl z) = omega (arith, count-sum s w F)
    go (inr l) = omega (arith, count-sum s w F)

pub once-signs : (F : List Cell) → ((s : Sign) (w : Row) → sum_chain (plus_on w) s F ≤ 1) →
    (cs : List Cell) → any_of (λ f. ltb 1 (count_on f.sign f.row F)) cs ≡ false
once-signs F h [] = refl
once-signs F h (c ∷ cs) =
    rw (le-ltb 1 (count_on c.sign c.row F) (omega (arith, count-sum c.sign c.row F, h c.sign c.row))) (once-signs F h cs)
