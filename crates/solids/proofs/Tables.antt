-- The entries of a solid's table.
--   cell_at cs p       cell p of a list
use mathlib.Core.Path.{◌≡◌, ap, refl, sym, ◌∙◌}
use Prim.Native.Nat.{◌+◌, ◌<◌, suc, zero, ℕ, ◌≤◌}
use mathlib.Core.Bool.{Bool, and-false, false, not, true}
use mathlib.Core.List.{List, [], map, ◌∷◌}
use lib.ListN.{get_or-eq_default, get_or, length}
use native.Mathlib.Nat.{add-suc, add-zero, le_of_suc-le-suc, not-suc-le-zero, suc-add, zero-add}
use native.Mathlib.Omega.{arith}
use native.Mathlib.Decide.{dec_lt}
use lib.Dec.{eqb}
use borrow.Author.Tests.{eqb-false, eqb-true}
use Rattle.words.specs.Records.{tabulate}
use Rattle.words.proofs.Records.{tabulate_at, tabulate-length}
use Rattle.simplex.specs.Cell.{Cell, Row, Sign, no_cell}
use Rattle.simplex.specs.Faces.{faces, prefixed, without}
use Rattle.simplex.proofs.Each.{All}
use Rattle.simplex.proofs.Rows.{Long}
use Rattle.simplex.proofs.Without.{without-length}
use Rattle.records.specs.Layout.{empty, Entry}
use Rattle.solids.specs.Table.{entries_from, entry_at, table_of, wing_at}
use Rattle.solids.specs.Wings.{neighbour, neighbour_from, wings_of}
use Rattle.solids.proofs.Neighbours.{Wing, has_is, neighbour_is}
use Rattle.solids.proofs.Solid.{all_at, row_at}

abbrev pub cell_at : List Cell → ℕ → Cell
cell_at cs p = get_or cs p no_cell

pub entries_length : (all : List Cell) (p : ℕ) (cs : List Cell) → length (entries_from all p cs) ≡ length cs
entries_length all p [] = refl
entries_length all p (c ∷ cs) = ap suc (entries_length all (suc p) cs)

entries_at : (all : List Cell) (p n : ℕ) (cs : List Cell) → n < length cs →
    entry_at (entries_from all p cs) n ≡ record { cell = cell_at cs n; wings = wings_of all (p + n) (cell_at cs n) }
entries_at all p n [] h = absurd (not-suc-le-zero h)
entries_at all p zero (c ∷ cs) h = rw (add-zero p) refl
entries_at all p (suc n) (c ∷ cs) h = entries_at all (suc p) n cs (le_of_suc-le-suc h) ∙ rw (add-suc p n, suc-add p n) refl

pub table_at : (cs : List Cell) (p : ℕ) → p < length cs →
    entry_at (table_of cs) p ≡ record { cell = cell_at cs p; wings = wings_of cs p (cell_at cs p) }
table_at cs p h = entries_at cs 0 p cs h ∙ ap (λ m. record { cell = cell_at cs p; wings = wings_of cs m (cell_at cs p) }) (zero-add p)

-- a table's cells
pub table-cells : (all : List Cell) (p : ℕ) (cs : List Cell) → map (λ (e : Entry). e.cell) (entries_from all p cs) ≡ cs
table-cells all p [] = refl
table-cells all p (c ∷ cs) = ap {B = List Cell} (λ r. c ∷ r) (table-cells all (suc p) cs)

-- something of each face of a cell, by position
pub map-faces : (g : Row → ℕ) (s : Sign) (m : ℕ) (v : Row) →
    map (λ (f : Cell). g f.row) (faces s m v) ≡ tabulate (length v) (λ j. g (without j v))
map-faces g s m [] = refl
map-faces g s m (x ∷ w) = ap {B = List ℕ} (λ r. g w ∷ r) (shift (faces (not s) m w) ∙ map-faces (λ y. g (x ∷ y)) (not s) m w)
  where
    shift : (L : List Cell) → map (λ (f : Cell). g f.row) (map (prefixed x) L) ≡ map (λ (f : Cell). g (x ∷ f.row)) L
    shift [] = refl
    shift (c ∷ L) = ap {B = List ℕ} (λ r. g (x ∷ c.row) ∷ r) (shift L)

-- the wings of a cell, by position
pub wings_tabulated : (cs : List Cell) (p : ℕ) (c : Cell) →
    wings_of cs p c ≡ tabulate (length c.row) (λ j. neighbour p (without j c.row) cs)
wings_tabulated cs p c = map-faces (λ w. neighbour p w cs) c.sign c.material c.row

pub without-none : (a : ℕ) (w : Row) → length w ≤ a → without a w ≡ w
without-none a [] h = refl
without-none zero (x ∷ w) h = absurd (not-suc-le-zero h)
without-none (suc a) (x ∷ w) h = ap {B = Row} (λ r. x ∷ r) (without-none a w (le_of_suc-le-suc h))

-- a row of no face's length is no face of a cell
neighbour-long : (n p : ℕ) (w : Row) (cs : List Cell) → All (Long n) cs → n ≤ length w → neighbour p w cs ≡ empty
neighbour-long n p w cs long h = go (eqb (neighbour p w cs) empty) refl
  where
    not_one : Wing p 0 w cs (neighbour p w cs) → ⊥
    not_one r =
        let f = has_is w (row_at cs r.0) r.4 in
        omega (arith, without-length f.0 (row_at cs r.0) f.1, ap length f.2, all_at (Long n) cs long r.0 r.1)

    go : (t : Bool) → eqb (neighbour p w cs) empty ≡ t → neighbour p w cs ≡ empty
    go true e = eqb-true (neighbour p w cs) empty e
    go false e = absurd (not_one (neighbour_is p 0 w cs (eqb-false (neighbour p w cs) empty e)))

pub neighbour_of_nothing : (p n : ℕ) (cs : List Cell) → neighbour_from p n [] cs ≡ empty
neighbour_of_nothing p n [] = refl
neighbour_of_nothing p n (c ∷ cs) = rw (and-false (not (eqb p n))) (neighbour_of_nothing p (suc n) cs)

-- wing a of cell p of the table is the neighbour there, whatever p and a are
pub table_wing : (n : ℕ) (cs : List Cell) → All (Long n) cs → (p a : ℕ) →
    wing_at (table_of cs) p a ≡ neighbour p (without a (row_at cs p)) cs
table_wing n cs long p a = go (dec_lt p (length cs))
  where
    row : Row
    row = row_at cs p

    at : p < length cs → Dec (a < length row) →
        get_or (tabulate (length row) (λ j. neighbour p (without j row) cs)) a empty ≡ neighbour p (without a row) cs
    at hp (yes l) = tabulate_at (length row) (λ j. neighbour p (without j row) cs) a empty l
    at hp (no l) =
        let f : ℕ → ℕ = λ j. neighbour p (without j row) cs in
        let k : length row ≤ a = omega arith in
        get_or-eq_default (tabulate (length row) f) empty (rw (tabulate-length (length row) f) k)
        ∙ sym (ap (λ w. neighbour p w cs) (without-none a row k) ∙ neighbour-long n p row cs long (omega (arith, all_at (Long n) cs long p hp)))

    go : Dec (p < length cs) → wing_at (table_of cs) p a ≡ neighbour p (without a row) cs
    go (yes hp) =
        ap (λ (e : Entry). get_or e.wings a empty) (table_at cs p hp)
        ∙ ap (λ ws. get_or ws a empty) (wings_tabulated cs p (cell_at cs p)) ∙ at hp (dec_lt a (length row))
    go (no hp) =
        let k : length cs ≤ p = omega arith in
        ap (λ (e : Entry). get_or e.wings a empty)
        (get_or-eq_default (table_of cs) (record { cell = no_cell; wings = [] }) (rw (entries_length cs 0 cs) k))
        ∙ sym (ap (λ (c : Cell). neighbour p (without a c.row) cs) (get_or-eq_default cs no_cell k) ∙ neighbour_of_nothing p 0 cs)
