-- How often a row is a face of another, and faces that have a vertex.
use mathlib.Core.Path.{◌≡◌, refl, sym, ap, ap₂, ◌∙◌}
use mathlib.Core.Bool.{Bool, true, false, not, cond, ◌&&◌}
use mathlib.Core.List.{List, [], ◌∷◌, ◌++◌, map}
use Prim.Native.Nat.{ℕ, zero, suc, ◌+◌, ◌≤◌, ◌<◌}
use native.Mathlib.Omega.{arith}
use native.Mathlib.Nat.{le_of_suc-le-suc, not-suc-le-zero}
use lib.Dec.{eqb}
use lib.ListN.{length}
use borrow.Author.Tests.{eqb-true}
use Rattle.simplex.specs.Cell.{Cell, Row, filled, one, same_row, times}
use Rattle.simplex.specs.Chain.{total}
use Rattle.simplex.specs.Faces.{all_faces, faces, facets, keep, prefixed, without}
use Rattle.simplex.specs.Sort.{Asc}
use Rattle.simplex.proofs.Cancel.{total-keep}
use Rattle.simplex.proofs.Each.{All, All-append, All-map}
use Rattle.simplex.proofs.Counts.{cond_le, one_le, count_faces, sum_chain_sum_rows, sum_faces_count_faces}
use Rattle.simplex.proofs.Rows.{Long, hits, same_row_refl}
use Rattle.simplex.proofs.Sums.{sum_chain_faces}

pub total-faces : (w : Row) (s : Bool) (m : ℕ) (v : Row) → total w (faces s m v) ≡ count_faces (hits w) v
total-faces w s m v =
    sym (sum_chain_sum_rows (hits w) true (faces s m v)) ∙ sum_chain_faces (λ c y. hits w y) s m true v
    ∙ sum_faces_count_faces (hits w) (times s true) v

pub count_faces_face : (g : Row → ℕ) (j : ℕ) (v : Row) → j < length v → g (without j v) ≤ count_faces g v
count_faces_face g j [] h = absurd (not-suc-le-zero h)
count_faces_face g zero (x ∷ v) h = omega arith
count_faces_face g (suc j) (x ∷ v) h = omega (arith, count_faces_face (λ y. g (x ∷ y)) j v (le_of_suc-le-suc h))

pub without-filled : (j : ℕ) (v : Row) → j < length v → 2 ≤ length v → filled (without j v) ≡ true
without-filled j [] h l = absurd (not-suc-le-zero h)
without-filled j (x ∷ []) h l = absurd (omega arith)
without-filled zero (x ∷ y ∷ v) h l = refl
without-filled (suc j) (x ∷ y ∷ v) h l = refl

-- the position of a face
pub count_faces_find : (q : Row → Bool) (v : Row) → 1 ≤ count_faces (λ y. one (q y)) v →
    (b : ℕ) × (b < length v) × (q (without b v) ≡ true)
count_faces_find q [] h = absurd (not-suc-le-zero h)
count_faces_find q (x ∷ v) h = go (q v) refl h (count_faces_find (λ y. q (x ∷ y)) v)
  where
    go : (t : Bool) → q v ≡ t → 1 ≤ one t + count_faces (λ y. one (q (x ∷ y))) v →
        (1 ≤ count_faces (λ y. one (q (x ∷ y))) v → (b : ℕ) × (b < length v) × (q (x ∷ without b v) ≡ true)) →
        (b : ℕ) × (b < suc (length v)) × (q (without b (x ∷ v)) ≡ true)
    go true e h k = (0, omega arith, e)
    go false e h k = let r = k (omega arith) in (suc r.0, omega arith, r.2)

-- an ascending row has a face once
count_faces_none : (q : Row → Bool) (v : Row) → ((y : Row) → q y ≡ false) → count_faces (λ y. one (q y)) v ≡ 0
count_faces_none q [] h = refl
count_faces_none q (x ∷ v) h = omega (arith, ap one (h v), count_faces_none (λ y. q (x ∷ y)) v (λ y. h (x ∷ y)))

pub count_faces_once : (w v : Row) → Asc v → count_faces (hits w) v ≤ 1
count_faces_once w [] s = omega arith
count_faces_once [] (x ∷ v) s = omega (arith, count_faces_none (λ y. false) v (λ y. refl), one_le (same_row v []))
count_faces_once (y ∷ w) (x ∷ []) s = omega arith
count_faces_once (y ∷ w) (x ∷ z ∷ v) s = go (eqb z y) refl (eqb x y) refl (count_faces_once w (z ∷ v) s.1)
  where
    go : (a : Bool) → eqb z y ≡ a → (b : Bool) → eqb x y ≡ b → count_faces (hits w) (z ∷ v) ≤ 1 →
        one (a && same_row v w) + count_faces (λ r. one (b && same_row r w)) (z ∷ v) ≤ 1
    go true e true f k = absurd (omega (arith, eqb-true z y e, eqb-true x y f))
    go true e false f k = omega (arith, count_faces_none (λ r. false) (z ∷ v) (λ r. refl))
    go false e true f k = omega arith
    go false e false f k = omega (arith, count_faces_none (λ r. false) (z ∷ v) (λ r. refl))

pub facets_le : (w : Row) (cs : List Cell) → total w (facets cs) ≤ total w (all_faces cs)
facets_le w cs = omega (arith, total-keep filled w (all_faces cs), cond_le (filled w) (total w (all_faces cs)))

-- rows of two vertices or more: every face has a vertex
pub keep_all : (q : Row → Bool) (L : List Cell) → All (λ w. q w ≡ true) L → keep (λ c. q c.row) L ≡ L
keep_all q [] a = refl
keep_all q (c ∷ L) a = rw a.0 (ap {B = List Cell} (λ r. c ∷ r) (keep_all q L a.1))

front_filled : (x : ℕ) (L : List Cell) → All (λ w. filled w ≡ true) (map (prefixed x) L)
front_filled x [] = tt
front_filled x (c ∷ L) = (refl, front_filled x L)

pub faces-filled : (s : Bool) (m : ℕ) (v : Row) → 2 ≤ length v → All (λ w. filled w ≡ true) (faces s m v)
faces-filled s m [] l = tt
faces-filled s m (x ∷ []) l = absurd (omega arith)
faces-filled s m (x ∷ y ∷ v) l = (refl, front_filled x (faces (not s) m (y ∷ v)))

pub facets-same : (cs : List Cell) → All (λ v. 2 ≤ length v) cs → facets cs ≡ all_faces cs
facets-same cs a = keep_all filled (all_faces cs) (go cs a)
  where
    go : (cs : List Cell) → All (λ v. 2 ≤ length v) cs → All (λ w. filled w ≡ true) (all_faces cs)
    go [] a = tt
    go (c ∷ cs) a =
        All-append (λ w. filled w ≡ true) (faces c.sign c.material c.row) (all_faces cs)
        (faces-filled c.sign c.material c.row a.0) (go cs a.1)

pub keep_append : (q : Cell → Bool) (xs ys : List Cell) → keep q (xs ++ ys) ≡ keep q xs ++ keep q ys
keep_append q [] ys = refl
keep_append q (c ∷ xs) ys = ap (λ r. cond (q c) (c ∷ r) r) (keep_append q xs ys) ∙ go (q c)
  where
    go : (t : Bool) → cond t (c ∷ (keep q xs ++ keep q ys)) (keep q xs ++ keep q ys) ≡ cond t (c ∷ keep q xs) (keep q xs) ++ keep q ys
    go true = refl
    go false = refl

pub keep_ext : (R : Row → Type 0) (q r : Row → Bool) (L : List Cell) → All R L →
    ((w : Row) → R w → q w ≡ r w) → keep (λ c. q c.row) L ≡ keep (λ c. r c.row) L
keep_ext R q r [] a h = refl
keep_ext R q r (c ∷ L) a h = ap₂ {C = List Cell} (λ t l. cond t (c ∷ l) l) (h c.row a.0) (keep_ext R q r L a.1 h)

-- cells of dimension 1 and above have two vertices at least; those of dimension 0 have no faces
pub two_long : (d : ℕ) (cs : List Cell) → All (Long (suc (suc d))) cs → All (λ v. 2 ≤ length v) cs
two_long d cs long = All-map (Long (suc (suc d))) (λ v. 2 ≤ length v) cs (λ w e. omega arith) long

pub facets-none : (cs : List Cell) → All (Long 1) cs → facets cs ≡ []
facets-none [] long = refl
facets-none (c ∷ cs) long = go c.row long.0 (facets-none cs long.1)
  where
    go : (w : Row) → length w ≡ 1 → facets cs ≡ [] → keep (λ c. filled c.row) (faces c.sign c.material w ++ all_faces cs) ≡ []
    go [] e k = absurd (omega arith)
    go (x ∷ []) e k = k
    go (x ∷ (y ∷ w)) e k = absurd (omega arith)

pub all_in : (L : List Cell) → All (λ w. 0 < total w L) L
all_in [] = tt
all_in (c ∷ L) =
    (omega (arith, ap one (same_row_refl c.row)), All-map (λ w. 0 < total w L) (λ w. 0 < total w (c ∷ L)) L (λ w h. omega arith) (all_in L))

-- faces have one vertex less
front_long : (n x : ℕ) (L : List Cell) → All (Long n) L → All (Long (suc n)) (map (prefixed x) L)
front_long n x [] a = tt
front_long n x (c ∷ L) a = (ap suc a.0, front_long n x L a.1)

pub faces-long : (n : ℕ) (s : Bool) (m : ℕ) (w : Row) → length w ≡ suc n → All (Long n) (faces s m w)
faces-long n s m [] e = absurd (omega arith)
faces-long zero s m (x ∷ []) e = (refl, tt)
faces-long zero s m (x ∷ (y ∷ w)) e = absurd (omega arith)
faces-long (suc n) s m (x ∷ w) e = (omega arith, front_long n x (faces (not s) m w) (faces-long n (not s) m w (omega arith)))

pub all_faces-long : (n : ℕ) (cs : List Cell) → All (Long (suc n)) cs → All (Long n) (all_faces cs)
all_faces-long n [] a = tt
all_faces-long n (c ∷ cs) a =
    All-append (Long n) (faces c.sign c.material c.row) (all_faces cs)
    (faces-long n c.sign c.material c.row a.0) (all_faces-long n cs a.1)
