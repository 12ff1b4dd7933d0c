-- How many faces of prism cells lie on a row.
use mathlib.Core.Path.{◌≡◌, refl, ap}
use mathlib.Core.Bool.{Bool, true, false, ◌&&◌}
use mathlib.Core.List.{[], ◌∷◌, ◌++◌}
use Prim.Native.Nat.{ℕ, ◌+◌, ◌*◌, ◌≤◌}
use native.Mathlib.Omega.{arith}
use lib.Dec.{eqb}
use borrow.Author.Tests.{eqb-true}
use Rattle.simplex.specs.Cell.{Row, filled, one, same_row, times}
use Rattle.simplex.proofs.Counts.{count_faces, count_faces_add}
use Rattle.simplex.proofs.Rows.{Below, Filled}
use Rattle.prism.proofs.Prism.{sum_prism}

abbrev pub count_prism : (Row → Row → ℕ) → Row → ℕ
count_prism g [] = 0
count_prism g (x ∷ w) = g (x ∷ w) (x ∷ []) + count_prism (λ l u. g l (x ∷ u)) w

-- position 0 of each prism cell
abbrev pub count_first : (Row → Row → ℕ) → Row → ℕ
count_first g [] = 0
count_first g (x ∷ w) = g w (x ∷ []) + count_first (λ l u. g l (x ∷ u)) w

pub count_prism_add : (f g : Row → Row → ℕ) (v : Row) → count_prism (λ l u. f l u + g l u) v ≡ count_prism f v + count_prism g v
count_prism_add f g [] = refl
count_prism_add f g (x ∷ w) = omega (arith, count_prism_add (λ l u. f l (x ∷ u)) (λ l u. g l (x ∷ u)) w)

-- the faces of the prism cells: inner ones twice, bottom, top, and the prisms of the faces
pub count_id : (g : Row → Row → ℕ) (v : Row) →
    count_prism (λ l u. count_faces (λ y. g y u) l) v + count_prism (λ l u. count_faces (λ y. g l y) u) v + g [] v
    ≡ 2 * count_first g v + g v [] + count_faces (count_prism g) v
count_id g [] = omega arith
count_id g (x ∷ w) =
    let gx : Row → Row → ℕ = λ l u. g l (x ∷ u) in
    omega (
      arith,
      count_id gx w,
      count_prism_add g (λ l u. count_faces (λ y. gx l y) u) w,
      count_faces_add (λ y. g (x ∷ y) (x ∷ [])) (count_prism gx) w,
    )

pub sum_prism_count_prism : (g : Row → Row → ℕ) (e b : Bool) (v : Row) → sum_prism (λ c l u. g l u) e b v ≡ count_prism g v
sum_prism_count_prism g e b [] = refl
sum_prism_count_prism g e b (x ∷ w) = ap (λ n. g (x ∷ w) (x ∷ []) + n) (sum_prism_count_prism (λ l u. g l (x ∷ u)) e (times e b) w)

pub count_prism_le : (nv : ℕ) (f g : Row → Row → ℕ) (v : Row) → Below nv v →
    ((l u : Row) → Below nv l → Below nv u → Filled l → f l u ≤ g l u) → count_prism f v ≤ count_prism g v
count_prism_le nv f g [] bd h = omega arith
count_prism_le nv f g (x ∷ w) bd h =
    omega (
      arith,
      h (x ∷ w) (x ∷ []) bd (bd.0, tt) tt,
      count_prism_le nv (λ l u. f l (x ∷ u)) (λ l u. g l (x ∷ u)) w bd.1 (λ l u bl bu n. h l (x ∷ u) bl (bd.0, bu) n),
    )

-- the indicator of a pair of rows
abbrev pub hits_pair : Row → Row → Row → Row → ℕ
hits_pair a b l u = one (same_row u b && same_row l a)

-- the last vertex above is the first below
abbrev pub starts_with : ℕ → Row → Bool
starts_with y [] = false
starts_with y (x ∷ a) = eqb y x

abbrev pub doubled : Row → Row → Bool
doubled a [] = false
doubled a (y ∷ []) = starts_with y a
doubled a (y ∷ z ∷ b) = doubled a (z ∷ b)

abbrev pub rest : Row → Row
rest [] = []
rest (x ∷ a) = a

pub count_prism_zero : (v : Row) → count_prism (λ l u. 0) v ≡ 0
count_prism_zero [] = refl
count_prism_zero (x ∷ w) = omega (arith, count_prism_zero w)

count_prism_nil : (a v : Row) → count_prism (hits_pair a []) v ≡ 0
count_prism_nil a [] = refl
count_prism_nil a (x ∷ w) = omega (arith, count_prism_zero w)

-- only one row has the prism cell (a , b)
count_prism_last : (a : Row) (x y : ℕ) (w : Row) → x ≡ y → one (same_row (x ∷ w) a) ≤ one (starts_with y a && same_row w (rest a))
count_prism_last [] x y w e = omega arith
count_prism_last (z ∷ a) x y w e = rw e (omega arith)

pub count_prism_one : (a b v : Row) → count_prism (hits_pair a b) v ≤ one (doubled a b && same_row v (b ++ rest a))
count_prism_one a b [] = omega arith
count_prism_one a [] (x ∷ w) = omega (arith, count_prism_zero w)
count_prism_one a (y ∷ []) (x ∷ w) = go (eqb x y) refl
  where
    go : (t : Bool) → eqb x y ≡ t → one ((t && true) && same_row (x ∷ w) a) + count_prism (λ l u. one ((t && same_row u []) && same_row l a)) w
        ≤ one (starts_with y a && (t && same_row w (rest a)))
    go true e = omega (arith, count_prism_last a x y w (eqb-true x y e), count_prism_nil a w)
    go false e = omega (arith, count_prism_zero w)
count_prism_one a (y ∷ z ∷ b) (x ∷ w) = go (eqb x y) (count_prism_one a (z ∷ b) w)
  where
    go : (t : Bool) → count_prism (hits_pair a (z ∷ b)) w ≤ one (doubled a (z ∷ b) && same_row w ((z ∷ b) ++ rest a)) →
        one ((t && false) && same_row (x ∷ w) a) + count_prism (λ l u. one ((t && same_row u (z ∷ b)) && same_row l a)) w
        ≤ one (doubled a (z ∷ b) && (t && same_row w ((z ∷ b) ++ rest a)))
    go true h = omega arith
    go false h = omega (arith, count_prism_zero w)

-- inner faces
abbrev pub count_inner : (Row → Row → ℕ) → Row → ℕ
count_inner g [] = 0
count_inner g (x ∷ []) = 0
count_inner g (x ∷ y ∷ w) = g (y ∷ w) (x ∷ []) + count_inner (λ l u. g l (x ∷ u)) (y ∷ w)

pub count_first_count_inner : (g : Row → Row → ℕ) (x : ℕ) (w : Row) → count_first g (x ∷ w) ≡ count_inner g (x ∷ w) + g [] (x ∷ w)
count_first_count_inner g x [] = omega arith
count_first_count_inner g x (y ∷ w) = omega (arith, count_first_count_inner (λ l u. g l (x ∷ u)) y w)

pub count_inner_le : (nv : ℕ) (f g : Row → Row → ℕ) (v : Row) → Below nv v →
    ((l u : Row) → Below nv l → Below nv u → Filled l → f l u ≤ g l u) → count_inner f v ≤ count_inner g v
count_inner_le nv f g [] bd h = omega arith
count_inner_le nv f g (x ∷ []) bd h = omega arith
count_inner_le nv f g (x ∷ y ∷ w) bd h =
    omega (
      arith,
      h (y ∷ w) (x ∷ []) bd.1 (bd.0, tt) tt,
      count_inner_le nv (λ l u. f l (x ∷ u)) (λ l u. g l (x ∷ u)) (y ∷ w) bd.1 (λ l u bl bu n. h l (x ∷ u) bl (bd.0, bu) n),
    )

count_first_zero : (v : Row) → count_first (λ l u. 0) v ≡ 0
count_first_zero [] = refl
count_first_zero (x ∷ w) = omega (arith, count_first_zero w)

count_first_nil : (a v : Row) → count_first (hits_pair a []) v ≡ 0
count_first_nil a [] = refl
count_first_nil a (x ∷ w) = omega (arith, count_first_zero w)

count_first_one : (a b v : Row) → count_first (hits_pair a b) v ≤ one (filled b && same_row v (b ++ a))
count_first_one a b [] = omega arith
count_first_one a [] (x ∷ w) = omega (arith, count_first_zero w)
count_first_one a (y ∷ []) (x ∷ w) = go (eqb x y)
  where
    go : (t : Bool) → one ((t && true) && same_row w a) + count_first (λ l u. one ((t && same_row u []) && same_row l a)) w ≤ one (t && same_row w a)
    go true = omega (arith, count_first_nil a w)
    go false = omega (arith, count_first_zero w)
count_first_one a (y ∷ z ∷ b) (x ∷ w) = go (eqb x y) (count_first_one a (z ∷ b) w)
  where
    go : (t : Bool) → count_first (hits_pair a (z ∷ b)) w ≤ one (same_row w ((z ∷ b) ++ a)) →
        one ((t && false) && same_row w a) + count_first (λ l u. one ((t && same_row u (z ∷ b)) && same_row l a)) w ≤ one
        (t && same_row w ((z ∷ b) ++ a))
    go true h = omega arith
    go false h = omega (arith, count_first_zero w)

pub count_inner_one : (a b v : Row) → count_inner (hits_pair a b) v ≤ one (filled b && same_row v (b ++ a))
count_inner_one a b [] = omega arith
count_inner_one a b (x ∷ w) = omega (arith, count_first_count_inner (hits_pair a b) x w, count_first_one a b (x ∷ w))

pub count_inner_zero : (v : Row) → count_inner (λ l u. 0) v ≡ 0
count_inner_zero [] = refl
count_inner_zero (x ∷ w) = omega (arith, count_first_count_inner (λ l u. 0) x w, count_first_zero (x ∷ w))
