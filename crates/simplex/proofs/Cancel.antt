-- Faces that meet in pairs cancel.
--   restricted q f        the functional f at the rows that pass the test q, 0 elsewhere
--   lone_in F w            the row stands once in the list
--   Paired F              each row that does not stand alone has as many plus as minus
use mathlib.Core.Path.{◌≡◌, refl, sym, ap, ◌∙◌, fun_ext}
use mathlib.Core.Bool.{Bool, true, false, not, cond, ◌&&◌, and-false}
use mathlib.Core.List.{List, [], ◌∷◌}
use Prim.Native.Nat.{ℕ, zero, suc, ◌+◌, ◌*◌, ◌≤◌}
use native.Mathlib.Omega.{arith}
use native.Mathlib.Nat.{zero-mul}
use lib.Dec.{eqb}
use lib.ListN.{length}
use Rattle.simplex.specs.Cell.{Cell, Row, filled, one, same_row, times}
use Rattle.simplex.specs.Chain.{total}
use Rattle.simplex.specs.Faces.{all_faces, facets, keep}
use Rattle.simplex.proofs.Rows.{same_row_refl, same_row_true}
use Rattle.simplex.proofs.Signs.{times_not_r}
use Rattle.simplex.proofs.Sums.{Functional, plus_on, sum_chain, sum_chain_zero}

abbrev pub restricted : (Row → Bool) → Functional → Functional
restricted q f c y = cond (q y) (f c y) 0

sum_chain_cond : (t : Bool) (f : Functional) (b : Bool) (c : Cell) (r : List Cell) →
    sum_chain f b (cond t (c ∷ r) r) ≡ cond t (f (times c.sign b) c.row) 0 + sum_chain f b r
sum_chain_cond true f b c r = refl
sum_chain_cond false f b c r = omega arith

pub sum_chain_keep : (q : Row → Bool) (f : Functional) (b : Bool) (cs : List Cell) →
    sum_chain f b (keep (λ c. q c.row) cs) ≡ sum_chain (restricted q f) b cs
sum_chain_keep q f b [] = refl
sum_chain_keep q f b (c ∷ cs) = omega (arith, sum_chain_cond (q c.row) f b c (keep (λ c. q c.row) cs), sum_chain_keep q f b cs)

on_one : (f : Functional) (v : Row) (c : Bool) (y : Row) → cond (same_row y v) (f c y) 0 ≡ plus_on v c y * f true v + plus_on v (not c) y * f false v
on_one f v c y = go c (same_row y v) (same_row_true y v)
  where
    go : (c t : Bool) → (t ≡ true → y ≡ v) → cond t (f c y) 0 ≡ one (c && t) * f true v + one (not c && t) * f false v
    go true true h = omega (arith, ap (f true) (h refl))
    go false true h = omega (arith, ap (f false) (h refl))
    go true false h = omega arith
    go false false h = omega arith

on_sum : (f : Functional) (v : Row) (b : Bool) (cs : List Cell) →
    sum_chain (restricted (λ y. same_row y v) f) b cs ≡ sum_chain (plus_on v) b cs * f true v + sum_chain (plus_on v) (not b) cs * f false v
on_sum f v b [] = omega (arith, zero-mul (f true v))
on_sum f v b (c ∷ cs) =
    rw (times_not_r c.sign b) (omega (arith, on_one f v (times c.sign b) c.row, on_sum f v b cs))

abbrev off : Row → Row → Bool
off v y = not (same_row y v)

cond_split : (t : Bool) (n : ℕ) → n ≡ cond t n 0 + cond (not t) n 0
cond_split true n = omega arith
cond_split false n = omega arith

pub sum_chain_splits : (q : Row → Bool) (f : Functional) (b : Bool) (cs : List Cell) →
    sum_chain f b cs ≡ sum_chain (restricted q f) b cs + sum_chain (restricted (λ y. not (q y)) f) b cs
sum_chain_splits q f b [] = refl
sum_chain_splits q f b (c ∷ cs) = omega (arith, sum_chain_splits q f b cs, cond_split (q c.row) (f (times c.sign b) c.row))

sum_chain_split : (f : Functional) (v : Row) (b : Bool) (cs : List Cell) →
    sum_chain f b cs ≡ sum_chain (restricted (λ y. same_row y v) f) b cs + sum_chain (restricted (off v) f) b cs
sum_chain_split f v b cs = sum_chain_splits (λ y. same_row y v) f b cs

keep-length : (q : Cell → Bool) (cs : List Cell) → length (keep q cs) ≤ length cs
keep-length q [] = omega arith
keep-length q (c ∷ cs) = go (q c) (keep-length q cs)
  where
    go : (t : Bool) → length (keep q cs) ≤ length cs → length (cond t (c ∷ keep q cs) (keep q cs)) ≤ suc (length cs)
    go true h = omega arith
    go false h = omega arith

-- as many plus cells as minus cells on a row
abbrev pub Balanced : Row → List Cell → Type 0
Balanced w F = sum_chain (plus_on w) true F ≡ sum_chain (plus_on w) false F

pub on_bal : (f : Functional) (v : Row) (cs : List Cell) → Balanced v cs →
    sum_chain (restricted (λ y. same_row y v) f) true cs ≡ sum_chain (restricted (λ y. same_row y v) f) false cs
on_bal f v cs h = rw (on_sum f v true cs, on_sum f v false cs, h) refl

rest : (n : ℕ) (f : Functional) (c : Cell) (cs : List Cell) → Balanced c.row (c ∷ cs) →
    keep (λ a. off c.row a.row) (c ∷ cs) ≡ keep (λ a. off c.row a.row) cs →
    sum_chain f true (c ∷ cs) + sum_chain f false (keep (λ a. off c.row a.row) cs)
    ≡ sum_chain f false (c ∷ cs) + sum_chain f true (keep (λ a. off c.row a.row) cs)
rest n f c cs h e =
    let v : Row = c.row in
    omega (
      arith,
      sum_chain_split f v true (c ∷ cs),
      sum_chain_split f v false (c ∷ cs),
      on_bal f v (c ∷ cs) h,
      sum_chain_keep (off v) f true (c ∷ cs),
      sum_chain_keep (off v) f false (c ∷ cs),
      ap (sum_chain f true) e,
      ap (sum_chain f false) e,
    )

-- where each row has as many plus cells as minus cells, every functional sums to nothing
pub bal : (n : ℕ) (f : Functional) (cs : List Cell) → length cs ≤ n → ((w : Row) → Balanced w cs) → sum_chain f true cs ≡ sum_chain f false cs
bal zero f [] l h = refl
bal zero f (c ∷ cs) l h = absurd (omega arith)
bal (suc n) f [] l h = refl
bal (suc n) f (c ∷ cs) l h =
    let v : Row = c.row in
    let r : List Cell = keep (λ c. off v c.row) cs in
    let e : keep (λ c. off v c.row) (c ∷ cs) ≡ r = rw (same_row_refl v) refl in
    omega (
      arith,
      rest n f c cs (h v) e,
      bal n f r (omega (arith, keep-length (λ c. off v c.row) cs)) (λ w. omega (arith, h w, rest n (plus_on w) c cs (h v) e)),
    )

abbrev pub lone_in : List Cell → Row → Bool
lone_in F w = eqb (total w F) 1

-- each face that does not stand alone is met by its opposite
abbrev pub Paired : List Cell → Type 0
Paired F = (w : Row) → lone_in F w ≡ false → Balanced w F

cond_zero : (t : Bool) → ◌≡◌ {A = ℕ} (cond t 0 0) 0
cond_zero true = refl
cond_zero false = refl

res_ind : (q : Row → Bool) (w : Row) (c : Bool) (y : Row) → restricted q (plus_on w) c y ≡ cond (q w) (plus_on w c y) 0
res_ind q w c y = go (same_row y w) (same_row_true y w)
  where
    go : (t : Bool) → (t ≡ true → y ≡ w) → cond (q y) (one (c && t)) 0 ≡ cond (q w) (one (c && t)) 0
    go true h = rw (h refl) refl
    go false h = rw (and-false c) (cond_zero (q y) ∙ sym (cond_zero (q w)))

-- the row's count in what a test of the row keeps
pub count-keep : (q : Row → Bool) (w : Row) (b : Bool) (cs : List Cell) →
    sum_chain (plus_on w) b (keep (λ c. q c.row) cs) ≡ cond (q w) (sum_chain (plus_on w) b cs) 0
count-keep q w b cs =
    sum_chain_keep q (plus_on w) b cs ∙ ap (λ (f : Functional). sum_chain f b cs) (fun_ext (λ c. fun_ext (λ y. res_ind q w c y))) ∙ go (q w)
  where
    go : (t : Bool) → sum_chain (λ c y. cond t (plus_on w c y) 0) b cs ≡ cond t (sum_chain (plus_on w) b cs) 0
    go true = refl
    go false = sum_chain_zero b cs

pub lone_cancel : (F : List Cell) → Paired F → (f : Functional) →
    sum_chain f true F + sum_chain f false (keep (λ c. lone_in F c.row) F) ≡ sum_chain f true (keep (λ c. lone_in F c.row) F) + sum_chain f false F
lone_cancel F p f =
    let q : Row → Bool = lone_in F in
    let r : List Cell = keep (λ c. not (q c.row)) F in
    omega (
      arith,
      sum_chain_splits q f true F,
      sum_chain_splits q f false F,
      sum_chain_keep q f true F,
      sum_chain_keep q f false F,
      sum_chain_keep (λ y. not (q y)) f true F,
      sum_chain_keep (λ y. not (q y)) f false F,
      bal (length r) f r (omega arith) (λ w. rw (count-keep (λ y. not (q y)) w true F, count-keep (λ y. not (q y)) w false F) (go w (q w) refl)),
    )
  where
    go : (w : Row) (t : Bool) → lone_in F w ≡ t → cond (not t) (sum_chain (plus_on w) true F) 0 ≡ cond (not t) (sum_chain (plus_on w) false F) 0
    go w true h = refl
    go w false h = p w h

pub plus-minus : (w : Row) (cs : List Cell) → sum_chain (plus_on w) true cs + sum_chain (plus_on w) false cs ≡ total w cs
plus-minus w [] = refl
plus-minus w (c ∷ cs) = omega (arith, plus-minus w cs, go c.sign (same_row c.row w))
  where
    go : (s t : Bool) → one (times s true && t) + one (times s false && t) ≡ one t
    go true t = omega arith
    go false t = omega arith

pub total-keep : (q : Row → Bool) (w : Row) (cs : List Cell) → total w (keep (λ c. q c.row) cs) ≡ cond (q w) (total w cs) 0
total-keep q w cs = omega (
  arith,
  plus-minus w (keep (λ c. q c.row) cs),
  count-keep q w true cs,
  count-keep q w false cs,
  go (q w) (sum_chain (plus_on w) true cs) (sum_chain (plus_on w) false cs) (total w cs) (plus-minus w cs),
)
  where
    go : (t : Bool) (m n k : ℕ) → m + n ≡ k → cond t m 0 + cond t n 0 ≡ cond t k 0
    go true m n k e = e
    go false m n k e = refl

-- what is 0 on the empty row does not see the difference
pub sum_chain_facets : (f : Functional) (b : Bool) (cs : List Cell) → ((c : Bool) → f c [] ≡ 0)
    → sum_chain f b (facets cs) ≡ sum_chain f b (all_faces cs)
sum_chain_facets f b cs h =
    sum_chain_keep filled f b (all_faces cs) ∙ ap (λ (f : Functional). sum_chain f b (all_faces cs)) (fun_ext (λ c. fun_ext (λ y. go c y)))
  where
    go : (c : Bool) (y : Row) → restricted filled f c y ≡ f c y
    go c [] = sym (h c)
    go c (x ∷ y) = refl
