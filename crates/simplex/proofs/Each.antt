-- A property of each element of a list.
--   Each Q xs                     every element has the property Q
--   each_at                       so has the one at a place
--   each_map, each_append, each_keep      a weaker property; two lists one after the other; the cells that pass a test
--   All R cs                      each row of a list of cells has the property R; All-map, All_both, All-append, All-keep of it
-- Assumes nothing.
use mathlib.Core.Bool.{Bool, true, false, cond}
use mathlib.Core.List.{List, [], ◌∷◌, ◌++◌}
use Prim.Native.Nat.{ℕ, zero, suc, ◌<◌}
use native.Mathlib.Nat.{le_of_suc-le-suc, not-suc-le-zero}
use lib.ListN.{length, get_or}
use Rattle.simplex.specs.Cell.{Cell, Row}
use Rattle.simplex.specs.Faces.{keep}

abbrev pub Each : {A : Type 0} → (A → Type 0) → List A → Type 0
Each Q [] = Unit {0}
Each Q (x ∷ xs) = Q x × Each Q xs

pub each_at : {A : Type 0} (Q : A → Type 0) (xs : List A) (i : ℕ) (d : A) → Each Q xs → i < length xs → Q (get_or xs i d)
each_at Q [] i d a h = absurd (not-suc-le-zero h)
each_at Q (x ∷ xs) zero d a h = a.0
each_at Q (x ∷ xs) (suc i) d a h = each_at Q xs i d a.1 (le_of_suc-le-suc h)

pub each_map : {A : Type 0} (Q R : A → Type 0) (xs : List A) → ((x : A) → Q x → R x) → Each Q xs → Each R xs
each_map Q R [] h a = tt
each_map Q R (x ∷ xs) h a = (h x a.0, each_map Q R xs h a.1)

pub each_append : {A : Type 0} (Q : A → Type 0) (xs ys : List A) → Each Q xs → Each Q ys → Each Q (xs ++ ys)
each_append Q [] ys a b = b
each_append Q (x ∷ xs) ys a b = (a.0, each_append Q xs ys a.1 b)

pub each_keep : (Q : Cell → Type 0) (q : Cell → Bool) (cs : List Cell) → Each Q cs → Each Q (keep q cs)
each_keep Q q [] a = tt
each_keep Q q (c ∷ cs) a = go (q c) (each_keep Q q cs a.1)
  where
    go : (t : Bool) → Each Q (keep q cs) → Each Q (cond t (c ∷ keep q cs) (keep q cs))
    go true r = (a.0, r)
    go false r = r

abbrev pub All : (Row → Type 0) → List Cell → Type 0
All R cs = Each (λ c. R c.row) cs

pub All-map : (R Q : Row → Type 0) (cs : List Cell) → ((w : Row) → R w → Q w) → All R cs → All Q cs
All-map R Q cs h = each_map (λ c. R c.row) (λ c. Q c.row) cs (λ c. h c.row)

pub All_both : (R Q : Row → Type 0) (cs : List Cell) → All R cs → All Q cs → All (λ w. R w × Q w) cs
All_both R Q [] a b = tt
All_both R Q (c ∷ cs) a b = ((a.0, b.0), All_both R Q cs a.1 b.1)

pub All-append : (R : Row → Type 0) (xs ys : List Cell) → All R xs → All R ys → All R (xs ++ ys)
All-append R = each_append (λ c. R c.row)

pub All-keep : (R : Row → Type 0) (q : Cell → Bool) (cs : List Cell) → All R cs → All R (keep q cs)
All-keep R = each_keep (λ c. R c.row)
