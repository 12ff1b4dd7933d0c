-- Lists of cells and their materials.
--   sum_cells g cs             the sum of a number over the cells of a list
--   same_chain                lists that are the same have the same sums, of every functional
--   same-material             and so have their cells of one material
--   MadeOf n cs               each cell of the list has the material n; same-made: of such lists materials need not be compared
--   of_material-all_faces, of_material-keep      the cells of one material among faces, and among cells that pass a test
-- Assumes nothing.
use mathlib.Core.Path.{◌≡◌, refl, sym, ap, ap₂, ◌∙◌}
use mathlib.Core.Bool.{Bool, true, false, not, cond, false≢true, ◌&&◌}
use mathlib.Core.List.{List, [], ◌∷◌, ◌++◌, map}
use Prim.Native.Nat.{ℕ, ◌+◌, ◌<◌}
use native.Mathlib.Omega.{arith}
use lib.Dec.{eqb}
use borrow.Author.Tests.{eq-eqb, eqb-true}
use Rattle.simplex.specs.Cell.{Cell, Row, Sign, cell, one, same_row, times}
use Rattle.simplex.specs.Chain.{count_on, of_material, Same}
use Rattle.simplex.specs.Faces.{all_faces, faces, keep, prefixed}
use Rattle.simplex.proofs.FaceCounts.{keep_append}
use Rattle.simplex.proofs.Each.{Each}
use Rattle.simplex.proofs.Rows.{same_row_refl, same_row_true}
use Rattle.simplex.proofs.Signs.{times_self, times-same}
use Rattle.simplex.proofs.Sums.{Functional, sum_chain}

abbrev pub sum_cells : (Cell → ℕ) → List Cell → ℕ
sum_cells g [] = 0
sum_cells g (c ∷ cs) = g c + sum_cells g cs

-- x has the sign, material and row of c
same_cell : Cell → Cell → Bool
same_cell c x = eqb x.material c.material && (times x.sign c.sign && same_row x.row c.row)

abbrev hits : Cell → Cell → ℕ
hits c x = one (same_cell c x)

same_self : (c : Cell) → hits c c ≡ 1
unfolding same_cell
same_self c = rw (eq-eqb c.material c.material refl, times_self c.sign, same_row_refl c.row) refl

same_is : (c x : Cell) → same_cell c x ≡ true → x ≡ c
unfolding same_cell
same_is c x = go (eqb x.material c.material) (times x.sign c.sign) refl refl
  where
    go : (m s : Bool) → eqb x.material c.material ≡ m → times x.sign c.sign ≡ s → (m && (s && same_row x.row c.row)) ≡ true → x ≡ c
    go true true em es h =
        ap (λ n. cell x.sign n x.row) (eqb-true x.material c.material em)
        ∙ ap₂ (λ s w. cell s c.material w) (times-same x.sign c.sign es) (same_row_true x.row c.row h)
    go true false em es h = absurd (false≢true h)
    go false s em es h = absurd (false≢true h)

-- the list less the first cell that is c
take_out : Cell → List Cell → List Cell
take_out c [] = []
take_out c (x ∷ xs) = let r = take_out c xs in cond (same_cell c x) xs (x ∷ r)

take_out_sum : (g : Cell → ℕ) (c : Cell) (xs : List Cell) → 0 < sum_cells (hits c) xs → sum_cells g xs ≡ g c + sum_cells g (take_out c xs)
unfolding take_out
take_out_sum g c [] h = absurd (omega arith)
take_out_sum g c (x ∷ xs) h = go (same_cell c x) refl h (take_out_sum g c xs)
  where
    go : (t : Bool) → same_cell c x ≡ t → 0 < one t + sum_cells (hits c) xs →
        (0 < sum_cells (hits c) xs → sum_cells g xs ≡ g c + sum_cells g (take_out c xs)) →
        g x + sum_cells g xs ≡ g c + sum_cells g (cond t xs (x ∷ take_out c xs))
    go true e h ih = ap (λ y. g y + sum_cells g xs) (same_is c x e)
    go false e h ih = omega (arith, ih (omega arith))

same_sum : (xs ys : List Cell) → ((c : Cell) → sum_cells (hits c) xs ≡ sum_cells (hits c) ys) → (g : Cell → ℕ) → sum_cells g xs ≡ sum_cells g ys
same_sum [] [] e g = refl
same_sum [] (y ∷ ys) e g = absurd (omega (arith, e y, same_self y))
same_sum (x ∷ xs) ys e g =
    let some : 0 < sum_cells (hits x) ys = omega (arith, e x, same_self x) in
    omega (
      arith,
      take_out_sum g x ys some,
      same_sum xs (take_out x ys) (λ c. omega (arith, e c, take_out_sum (hits c) x ys some)) g,
    )

count_hits : (m : ℕ) (s : Sign) (w : Row) (cs : List Cell) → count_on s w (of_material m cs) ≡ sum_cells (hits (cell s m w)) cs
unfolding same_cell
count_hits m s w [] = refl
count_hits m s w (x ∷ cs) = go (eqb x.material m) (count_hits m s w cs)
  where
    go : (t : Bool) → count_on s w (of_material m cs) ≡ sum_cells (hits (cell s m w)) cs →
        count_on s w (cond t (x ∷ of_material m cs) (of_material m cs))
        ≡ one (t && (times x.sign s && same_row x.row w)) + sum_cells (hits (cell s m w)) cs
    go true e = ap (λ n. one (times x.sign s && same_row x.row w) + n) e
    go false e = omega (arith, e)

sum_same : (xs ys : List Cell) → Same xs ys → (g : Cell → ℕ) → sum_cells g xs ≡ sum_cells g ys
sum_same xs ys e g =
    same_sum xs ys
    (λ c. sym (count_hits c.material c.sign c.row xs) ∙ e c.material c.sign c.row
    ∙ count_hits c.material c.sign c.row ys) g

chain_cells : (f : Functional) (b : Bool) (cs : List Cell) → sum_chain f b cs ≡ sum_cells (λ c. f (times c.sign b) c.row) cs
chain_cells f b [] = refl
chain_cells f b (c ∷ cs) = ap (λ n. f (times c.sign b) c.row + n) (chain_cells f b cs)

pub same_chain : (xs ys : List Cell) → Same xs ys → (f : Functional) (b : Bool) → sum_chain f b xs ≡ sum_chain f b ys
same_chain xs ys e f b =
    chain_cells f b xs ∙ sum_same xs ys e (λ c. f (times c.sign b) c.row) ∙ sym (chain_cells f b ys)

-- what is added for a cell, where it has the material
abbrev made_sum : ℕ → Functional → Bool → Cell → ℕ
made_sum m f b c = cond (eqb c.material m) (f (times c.sign b) c.row) 0

chain_made : (m : ℕ) (f : Functional) (b : Bool) (cs : List Cell) → sum_chain f b (of_material m cs) ≡ sum_cells (made_sum m f b) cs
chain_made m f b [] = refl
chain_made m f b (c ∷ cs) = go (eqb c.material m) (chain_made m f b cs)
  where
    go : (t : Bool) → sum_chain f b (of_material m cs) ≡ sum_cells (made_sum m f b) cs →
        sum_chain f b (cond t (c ∷ of_material m cs) (of_material m cs)) ≡ cond t (f (times c.sign b) c.row) 0 + sum_cells (made_sum m f b) cs
    go true e = ap (λ n. f (times c.sign b) c.row + n) e
    go false e = omega (arith, e)

pub same-material : (xs ys : List Cell) → Same xs ys → (m : ℕ) (f : Functional) (b : Bool) →
    sum_chain f b (of_material m xs) ≡ sum_chain f b (of_material m ys)
same-material xs ys e m f b = chain_made m f b xs ∙ sum_same xs ys e (made_sum m f b) ∙ sym (chain_made m f b ys)

abbrev pub MadeOf : ℕ → List Cell → Type 0
MadeOf n cs = Each (λ c. c.material ≡ n) cs

made_of : (m n : ℕ) (cs : List Cell) → MadeOf n cs → of_material m cs ≡ cond (eqb n m) cs []
made_of m n [] a = go (eqb n m)
  where
    go : (t : Bool) → [] ≡ cond {A = List Cell} t [] []
    go true = refl
    go false = refl
made_of m n (c ∷ cs) a =
    ap (λ k. cond (eqb k m) (c ∷ of_material m cs) (of_material m cs)) a.0 ∙ rw (made_of m n cs a.1) (go (eqb n m))
  where
    go : (t : Bool) → cond t (c ∷ cond t cs []) (cond t cs []) ≡ cond t (c ∷ cs) []
    go true = refl
    go false = refl

-- lists of one material are the same if they are so with materials left out
pub same-made : (n : ℕ) (xs ys : List Cell) → MadeOf n xs → MadeOf n ys → ((s : Sign) (w : Row) → count_on s w xs ≡ count_on s w ys) → Same xs ys
same-made n xs ys a b e m s w =
    ap (count_on s w) (made_of m n xs a) ∙ go (eqb n m) ∙ sym (ap (count_on s w) (made_of m n ys b))
  where
    go : (t : Bool) → count_on s w (cond t xs []) ≡ count_on s w (cond t ys [])
    go true = e s w
    go false = refl

-- what is made from the cells of a list, cell by cell, each with its cell's material
pub of_material-step : (make : List Cell → List Cell) (m : ℕ) (c : Cell) (of : List Cell) (cs : List Cell) →
    ((xs : List Cell) → make (c ∷ xs) ≡ of ++ make xs) →
    MadeOf c.material of → of_material m (make cs) ≡ make (of_material m cs) → of_material m (make (c ∷ cs)) ≡ make (of_material m (c ∷ cs))
of_material-step make m c of cs all a ih =
    ap (of_material m) (all cs) ∙ keep_append (λ x. eqb x.material m) of (make cs)
    ∙ ap₂ {C = List Cell} (λ x y. x ++ y) (made_of m c.material of a) ih
    ∙ go (eqb c.material m)
  where
    go : (t : Bool) → cond t of [] ++ make (of_material m cs) ≡ make (cond t (c ∷ of_material m cs) (of_material m cs))
    go true = sym (all (of_material m cs))
    go false = refl

front_made : (n x : ℕ) (cs : List Cell) → MadeOf n cs → MadeOf n (map (prefixed x) cs)
front_made n x [] a = tt
front_made n x (c ∷ cs) a = (a.0, front_made n x cs a.1)

pub faces-made : (s : Sign) (m : ℕ) (w : Row) → MadeOf m (faces s m w)
faces-made s m [] = tt
faces-made s m (x ∷ w) = (refl, front_made m x (faces (not s) m w) (faces-made (not s) m w))

pub of_material-all_faces : (m : ℕ) (cs : List Cell) → of_material m (all_faces cs) ≡ all_faces (of_material m cs)
of_material-all_faces m [] = refl
of_material-all_faces m (c ∷ cs) =
    of_material-step all_faces m c (faces c.sign c.material c.row) cs (λ xs. refl) (faces-made c.sign c.material c.row)
    (of_material-all_faces m cs)

pub of_material-keep : (m : ℕ) (q : Cell → Bool) (cs : List Cell) → of_material m (keep q cs) ≡ keep q (of_material m cs)
of_material-keep m q [] = refl
of_material-keep m q (c ∷ cs) = go (q c) (eqb c.material m) refl refl (of_material-keep m q cs)
  where
    go : (t u : Bool) → q c ≡ t → eqb c.material m ≡ u → of_material m (keep q cs) ≡ keep q (of_material m cs) →
        of_material m (cond t (c ∷ keep q cs) (keep q cs)) ≡ keep q (cond u (c ∷ of_material m cs) (of_material m cs))
    go true true eq eu ih = rw (eu, eq) (ap {B = List Cell} (λ r. c ∷ r) ih)
    go true false eq eu ih = rw eu ih
    go false true eq eu ih = rw eq ih
    go false false eq eu ih = ih
