-- Lists of cells and tables as words, and back.
--   Sized d es        each entry has d + 1 vertices and d + 1 wings
use mathlib.Core.Path.{◌≡◌, ap, ap₂, refl, ◌∙◌}
use Prim.Native.Nat.{◌*◌, ◌<◌, suc, zero, ℕ}
use mathlib.Core.List.{List, [], map, ◌∷◌}
use native.Mathlib.Omega.{arith}
use lib.Seq.{drop_at, take_at}
use mathlib.Core.Bool.{false, true}
use lib.ListN.{get_or, length, length-append, length-map, take}
use native.Mathlib.Nat.{le_of_suc-le-suc, not-suc-le-zero}
use Rattle.words.specs.Records.{concat, part, tabulate}
use Rattle.words.proofs.Records.{EachLong, concat-length, part-concat, tabulate_ext, tabulate_get_d, tabulate-length}
use Rattle.simplex.specs.Cell.{Cell, Sign, cell, no_cell}
use Rattle.simplex.specs.Faces.{without}
use Rattle.simplex.proofs.Each.{All}
use Rattle.simplex.proofs.Rows.{Long}
use Rattle.simplex.specs.SignWords.{sign_of, sign_word}
use Rattle.records.specs.Layout.{Entry, cell_in, cell_of, cell_words, cells_of, entries_of, entry_of, entry_words}
use Rattle.records.specs.Layout.{list_size, own_list, record_size, table_words}
use Rattle.solids.specs.Table.{entries_from, entry_at}
use Rattle.solids.specs.Wings.{neighbour}
use Rattle.solids.proofs.Tables.{cell_at, wings_tabulated}

pub sign-back : (s : Sign) → sign_of (sign_word s) ≡ s
sign-back true = refl
sign-back false = refl

pub cell-back : (c : Cell) → cell_of (cell_words c) ≡ c
cell-back c = ap (λ s. cell s c.material c.row) (sign-back c.sign)

-- the words of cells of one length are records
words_long : (d : ℕ) (cs : List Cell) → All (Long (suc d)) cs → EachLong (list_size d) (map cell_words cs)
words_long d [] a = tt
words_long d (c ∷ cs) a = (omega (arith, a.0), words_long d cs a.1)

-- record p of the words of cells, n words each
pub words_record : (n : ℕ) (f : Cell → List ℕ) (cs : List Cell) (p : ℕ) → EachLong n (map f cs) → p < length cs →
    part n p (concat (map f cs)) ≡ f (cell_at cs p)
words_record n f cs p long h = part-concat n p (map f cs) long (rw (length-map cs f) h) ∙ at cs p h
  where
    at : (cs : List Cell) (p : ℕ) → p < length cs → get_or (map f cs) p [] ≡ f (cell_at cs p)
    at [] p h = absurd (not-suc-le-zero h)
    at (c ∷ cs) zero h = refl
    at (c ∷ cs) (suc p) h = at cs p (le_of_suc-le-suc h)

-- record p of a list's words
pub list_record : (d : ℕ) (cs : List Cell) (p : ℕ) → All (Long (suc d)) cs → p < length cs →
    part (list_size d) p (concat (map cell_words cs)) ≡ cell_words (cell_at cs p)
list_record d cs p long h = words_record (list_size d) cell_words cs p (words_long d cs long) h

-- a list's words give the list back
pub cells-back : (d : ℕ) (cs : List Cell) → All (Long (suc d)) cs → cells_of d (length cs) (concat (map cell_words cs)) ≡ cs
cells-back d cs long =
    tabulate_ext (length cs) (cell_in d (concat (map cell_words cs))) (λ p. cell_at cs p)
    (λ p h. ap cell_of (list_record d cs p long h) ∙ cell-back (cell_at cs p))
    ∙ tabulate_get_d no_cell cs

pub list_length_lem : (d : ℕ) (cs : List Cell) → All (Long (suc d)) cs → length (concat (map cell_words cs)) ≡ length cs * list_size d
list_length_lem d cs long =
    concat-length (list_size d) (map cell_words cs) (words_long d cs long) ∙ ap (λ n. n * list_size d) (length-map cs cell_words)

abbrev pub Sized : ℕ → List Entry → Type 0
Sized d [] = Unit {0}
Sized d (e ∷ es) = (length e.cell.row ≡ suc d) × (length e.wings ≡ suc d) × Sized d es

records_long : (d : ℕ) (es : List Entry) → Sized d es → EachLong (record_size d) (map entry_words es)
records_long d [] a = tt
records_long d (e ∷ es) a = (omega (arith, length-append (cell_words e.cell) e.wings, a.0, a.1), records_long d es a.2)

pub table-length : (d : ℕ) (es : List Entry) → Sized d es → length (table_words es) ≡ length es * record_size d
table-length d es a =
    concat-length (record_size d) (map entry_words es) (records_long d es a) ∙ ap (λ n. n * record_size d) (length-map es entry_words)

-- record p of a table's words
pub record_at : (d : ℕ) (es : List Entry) (p : ℕ) → Sized d es → p < length es →
    part (record_size d) p (table_words es) ≡ entry_words (entry_at es p)
record_at d es p a h = part-concat (record_size d) p (map entry_words es) (records_long d es a) (rw (length-map es entry_words) h) ∙ at es p h
  where
    at : (es : List Entry) (p : ℕ) → p < length es → get_or (map entry_words es) p [] ≡ entry_words (entry_at es p)
    at [] p h = absurd (not-suc-le-zero h)
    at (e ∷ es) zero h = refl
    at (e ∷ es) (suc p) h = at es p (le_of_suc-le-suc h)

sized_at : (d : ℕ) (es : List Entry) (p : ℕ) → Sized d es → p < length es → length (entry_at es p).cell.row ≡ suc d
sized_at d [] p a h = absurd (not-suc-le-zero h)
sized_at d (e ∷ es) zero a h = a.0
sized_at d (e ∷ es) (suc p) a h = sized_at d es p a.2 (le_of_suc-le-suc h)

entry-back : (d : ℕ) (e : Entry) → length e.cell.row ≡ suc d → entry_of d (entry_words e) ≡ e
entry-back d e l =
    let n : length (cell_words e.cell) ≡ list_size d = omega arith in
    ap₂ {C = Entry} (λ c ws. record { cell = c; wings = ws }) (ap cell_of (take_at (cell_words e.cell) e.wings (list_size d) n)
    ∙ cell-back e.cell) (drop_at (cell_words e.cell) e.wings (list_size d) n)

-- a table's words give the table back
pub entries_back : (d : ℕ) (es : List Entry) → Sized d es → entries_of d (length es) (table_words es) ≡ es
entries_back d es a =
    tabulate_ext (length es) (λ p. entry_of d (part (record_size d) p (table_words es))) (λ p. entry_at es p)
    (λ p h. ap (entry_of d) (record_at d es p a h) ∙ entry-back d (entry_at es p) (sized_at d es p a h))
    ∙ tabulate_get_d (record { cell = no_cell; wings = [] }) es

-- a table without its wings is the list of its cells
pub own-list : (d : ℕ) (es : List Entry) → Sized d es →
    own_list d (length es) (table_words es) ≡ concat (map cell_words (map (λ (e : Entry). e.cell) es))
own-list d es a =
    ap concat
    (tabulate_ext (length es) (λ p. take (list_size d) (part (record_size d) p (table_words es))) (λ p. cell_words (entry_at es p).cell)
    (λ p h. ap (take (list_size d)) (record_at d es p a h)
    ∙ take_at (cell_words (entry_at es p).cell) (entry_at es p).wings (list_size d)
    (let n : length (entry_at es p).cell.row ≡ suc d = sized_at d es p a h in omega arith))
    ∙ words es)
  where
    words : (es : List Entry) → tabulate (length es) (λ p. cell_words (entry_at es p).cell) ≡ map cell_words (map (λ (e : Entry). e.cell) es)
    words [] = refl
    words (e ∷ es) = ap {B = List (List ℕ)} (λ r. cell_words e.cell ∷ r) (words es)

-- the table of a solid is of one size
pub table_sized : (d : ℕ) (all : List Cell) (p : ℕ) (cs : List Cell) → All (Long (suc d)) cs → Sized d (entries_from all p cs)
table_sized d all p [] a = tt
table_sized d all p (c ∷ cs) a = (
  a.0,
  ap length (wings_tabulated all p c) ∙ tabulate-length (length c.row) (λ j. neighbour p (without j c.row) all) ∙ a.0,
  table_sized d all (suc p) cs a.1,
)
