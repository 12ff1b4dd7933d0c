-- Sums over rows and over faces, signs aside.
--   count_faces g w        the sum of g over the faces of a row
use mathlib.Core.Path.{◌≡◌, refl, sym, ap, ◌∙◌, fun_ext}
use mathlib.Core.Bool.{Bool, true, false, not, cond, ◌&&◌}
use mathlib.Core.List.{List, [], ◌∷◌, ◌++◌, map, append_assoc}
use Prim.Native.Nat.{ℕ, ◌+◌, ◌≤◌}
use native.Mathlib.Omega.{arith}
use Rattle.simplex.specs.Cell.{Cell, Row, one, times}
use Rattle.simplex.specs.Chain.{sum_rows}
use Rattle.simplex.specs.Faces.{all_faces, faces}
use Rattle.simplex.proofs.Each.{All}
use Rattle.simplex.proofs.Rows.{Below}
use Rattle.simplex.proofs.Sums.{Functional, sum_chain, sum_chain_all_faces, sum_faces}

pub one_le : (t : Bool) → one t ≤ 1
one_le true = omega arith
one_le false = omega arith

pub one_and : (s t : Bool) → one (s && t) ≤ one t
one_and true t = omega arith
one_and false t = omega arith

pub cond_le : (t : Bool) (n : ℕ) → cond t n 0 ≤ n
cond_le true n = omega arith
cond_le false n = omega arith

abbrev pub count_faces : (Row → ℕ) → Row → ℕ
count_faces g [] = 0
count_faces g (x ∷ w) = g w + count_faces (λ y. g (x ∷ y)) w

pub count_faces_add : (f g : Row → ℕ) (v : Row) → count_faces (λ y. f y + g y) v ≡ count_faces f v + count_faces g v
count_faces_add f g [] = refl
count_faces_add f g (x ∷ w) = omega (arith, count_faces_add (λ y. f (x ∷ y)) (λ y. g (x ∷ y)) w)

pub sum_faces_count_faces : (g : Row → ℕ) (b : Bool) (v : Row) → sum_faces (λ c y. g y) b v ≡ count_faces g v
sum_faces_count_faces g b [] = refl
sum_faces_count_faces g b (x ∷ w) = ap (λ n. g w + n) (sum_faces_count_faces (λ y. g (x ∷ y)) (not b) w)

pub count_faces_append : (g : Row → ℕ) (l r : Row) → count_faces g (l ++ r) ≡ count_faces (λ y. g (y ++ r)) l + count_faces (λ y. g (l ++ y)) r
count_faces_append g [] r = omega arith
count_faces_append g (x ∷ l) r = omega (arith, count_faces_append (λ y. g (x ∷ y)) l r)

pub count_faces_map : (g : Row → ℕ) (f : ℕ → ℕ) (v : Row) → count_faces g (map f v) ≡ count_faces (λ y. g (map f y)) v
count_faces_map g f [] = refl
count_faces_map g f (x ∷ w) = ap (λ n. g (map f w) + n) (count_faces_map (λ y. g (f x ∷ y)) f w)

pub count_faces_le : (nv : ℕ) (f g : Row → ℕ) (v : Row) → Below nv v → ((y : Row) → Below nv y → f y ≤ g y) → count_faces f v ≤ count_faces g v
count_faces_le nv f g [] bd h = omega arith
count_faces_le nv f g (x ∷ w) bd h =
    omega (arith, h w bd.1, count_faces_le nv (λ y. f (x ∷ y)) (λ y. g (x ∷ y)) w bd.1 (λ y b. h (x ∷ y) (bd.0, b)))

pub sum_chain_sum_rows : (g : Row → ℕ) (b : Bool) (cs : List Cell) → sum_chain (λ c y. g y) b cs ≡ sum_rows g cs
sum_chain_sum_rows g b [] = refl
sum_chain_sum_rows g b (c ∷ cs) = ap (λ n. g c.row + n) (sum_chain_sum_rows g b cs)

pub sum_rows-append : (g : Row → ℕ) (xs ys : List Cell) → sum_rows g (xs ++ ys) ≡ sum_rows g xs + sum_rows g ys
sum_rows-append g [] ys = omega arith
sum_rows-append g (c ∷ xs) ys = omega (arith, sum_rows-append g xs ys)

pub sum_rows-add : (f g : Row → ℕ) (cs : List Cell) → sum_rows (λ y. f y + g y) cs ≡ sum_rows f cs + sum_rows g cs
sum_rows-add f g [] = refl
sum_rows-add f g (c ∷ cs) = omega (arith, sum_rows-add f g cs)

pub sum_rows_le : (p : Row → Type 0) (f g : Row → ℕ) (cs : List Cell) → All p cs → ((y : Row) → p y → f y ≤ g y) → sum_rows f cs ≤ sum_rows g cs
sum_rows_le p f g [] a h = omega arith
sum_rows_le p f g (c ∷ cs) a h = omega (arith, h c.row a.0, sum_rows_le p f g cs a.1 h)

pub sum_rows-all_faces : (g : Row → ℕ) (cs : List Cell) → sum_rows g (all_faces cs) ≡ sum_rows (count_faces g) cs
sum_rows-all_faces g cs =
    sym (sum_chain_sum_rows g true (all_faces cs)) ∙ sum_chain_all_faces (λ c y. g y) true cs ∙ ap (λ (f : Functional). sum_chain f true cs)
    (fun_ext (λ c. fun_ext (λ y. sum_faces_count_faces g c y))) ∙ sum_chain_sum_rows (count_faces g) true cs

pub sum_rows-cond : (t : Bool) (f : Row → ℕ) (cs : List Cell) → sum_rows (λ y. cond t (f y) 0) cs ≡ cond t (sum_rows f cs) 0
sum_rows-cond true f cs = refl
sum_rows-cond false f [] = refl
sum_rows-cond false f (c ∷ cs) = omega (arith, sum_rows-cond false f cs)

pub count_faces_cond : (t : Bool) (f : Row → ℕ) (v : Row) → count_faces (λ y. cond t (f y) 0) v ≡ cond t (count_faces f v) 0
count_faces_cond true f v = refl
count_faces_cond false f [] = refl
count_faces_cond false f (x ∷ v) = omega (arith, count_faces_cond false (λ y. f (x ∷ y)) v)

pub sum_chain_le : (p : Row → Type 0) (f : Functional) (g : Row → ℕ) (b : Bool) (cs : List Cell) →
    All p cs → ((c : Bool) (y : Row) → p y → f c y ≤ g y) → sum_chain f b cs ≤ sum_rows g cs
sum_chain_le p f g b [] a h = omega arith
sum_chain_le p f g b (c ∷ cs) a h = omega (arith, h (times c.sign b) c.row a.0, sum_chain_le p f g b cs a.1 h)

pub all_faces-append : (xs ys : List Cell) → all_faces (xs ++ ys) ≡ all_faces xs ++ all_faces ys
all_faces-append [] ys = refl
all_faces-append (c ∷ xs) ys =
    rw (all_faces-append xs ys) (sym (mathlib.Core.List.append_assoc (faces c.sign c.material c.row) (all_faces xs) (all_faces ys)))

pub sum_rows_zero : (cs : List Cell) → sum_rows (λ v. 0) cs ≡ 0
sum_rows_zero [] = refl
sum_rows_zero (c ∷ cs) = omega (arith, sum_rows_zero cs)

count_faces_zero : (v : Row) → count_faces (λ y. 0) v ≡ 0
count_faces_zero [] = refl
count_faces_zero (x ∷ v) = omega (arith, count_faces_zero v)

pub sum_rows_count_faces_zero : (cs : List Cell) → sum_rows (count_faces (λ y. 0)) cs ≡ 0
sum_rows_count_faces_zero [] = refl
sum_rows_count_faces_zero (c ∷ cs) = omega (arith, sum_rows_count_faces_zero cs, count_faces_zero c.row)
