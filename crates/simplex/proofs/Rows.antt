-- Rows: when two are the same, and what a row is.
--   Below nv w        all vertices are below nv
--   Filled w          the row has a vertex
--   Good nv w         both
--   Long n w          the row has n vertices
--   hits w y          1 where y is the row w
use mathlib.Core.Path.{◌≡◌, refl, ap₂}
use mathlib.Core.Bool.{Bool, true, false, ◌&&◌, false≢true}
use mathlib.Core.List.{[], ◌∷◌}
use Prim.Native.Nat.{ℕ, ◌<◌}
use lib.Dec.{eqb}
use lib.ListN.{length}
use borrow.Author.Tests.{eqb-true, eq-eqb}
use Rattle.simplex.specs.Cell.{Row, one, same_row}

pub same_row_true : (v w : Row) → same_row v w ≡ true → v ≡ w
same_row_true [] [] e = refl
same_row_true [] (y ∷ w) e = absurd (false≢true e)
same_row_true (x ∷ v) [] e = absurd (false≢true e)
same_row_true (x ∷ v) (y ∷ w) e = go (eqb x y) refl (same_row_true v w) e
  where
    go : (t : Bool) → eqb x y ≡ t → (same_row v w ≡ true → v ≡ w) → (t && same_row v w) ≡ true → ◌≡◌ {A = Row} (x ∷ v) (y ∷ w)
    go true h ih e = ap₂ {C = Row} (λ a b. a ∷ b) (eqb-true x y h) (ih e)
    go false h ih e = absurd (false≢true e)

pub same_row_refl : (v : Row) → same_row v v ≡ true
same_row_refl [] = refl
same_row_refl (x ∷ v) = rw (eq-eqb x x refl) (same_row_refl v)

pub same_rows : (v w : Row) → v ≡ w → same_row v w ≡ true
same_rows v w e = rw e (same_row_refl w)

-- all vertices below nv
abbrev pub Below : ℕ → Row → Type 0
Below nv [] = Unit {0}
Below nv (x ∷ w) = (x < nv) × Below nv w

abbrev pub Filled : Row → Type 0
Filled [] = ⊥
Filled (x ∷ w) = Unit {0}

abbrev pub Good : ℕ → Row → Type 0
Good nv v = Filled v × Below nv v

abbrev pub Long : ℕ → Row → Type 0
Long n v = length v ≡ n

abbrev pub hits : Row → Row → ℕ
hits w y = one (same_row y w)
