-- The table of a solid, and soundness. Paper, section 3.
--   table_of cs            the cells with their wings
--   entry_at es p          entry p of a table
--   wing_at es p a         wing a of its cell p
--   table_of_list l         the table of a list of cells, as words
--   own_table d v s ws     the table is that of its own cells, and those are acceptable
--   sound d v s ws        its numbers are within the limits, its length is what they say, and it is its own table
use Rattle.std.specs.Prelude.{Bool, ◌&&◌, List, [], ◌∷◌, ℕ, suc, eqb, length, get_or}
use Rattle.rules.specs.Limits.{max_dimension}
use Rattle.rules.specs.Shapes.{shape_ok}
use Rattle.simplex.specs.Cell.{Cell, same_row, no_cell}
use Rattle.records.specs.Layout.{empty, Entry, table_length, table_words, own_list}
use Rattle.solids.specs.Accept.{Listed, solid_of, acceptable}
use Rattle.solids.specs.Wings.{wings_of}

-- the entries of the cells numbered from p, among all cells
abbrev pub entries_from : List Cell → ℕ → List Cell → List Entry
entries_from all p [] = []
entries_from all p (c ∷ cs) = record { cell = c; wings = wings_of all p c } ∷ entries_from all (suc p) cs

abbrev pub table_of : List Cell → List Entry
table_of cs = entries_from cs 0 cs

abbrev pub entry_at : List Entry → ℕ → Entry
entry_at es p = get_or es p (record { cell = no_cell; wings = [] })

abbrev pub wing_at : List Entry → ℕ → ℕ → ℕ
wing_at es p a = get_or (entry_at es p).wings a empty

unfoldable pub table_of_list : Listed → List ℕ
table_of_list l = table_words (table_of (solid_of l))

-- the list of a table's own cells
abbrev pub own_listed : ℕ → ℕ → ℕ → List ℕ → Listed
own_listed d v s ws = record { d = d; v = v; s = s; words = own_list d s ws }

unfoldable pub own_table : ℕ → ℕ → ℕ → List ℕ → Bool
own_table d v s ws = let l = own_listed d v s ws in acceptable l && same_row ws (table_of_list l)

unfoldable pub sound : ℕ → ℕ → ℕ → List ℕ → Bool
sound d v s ws = shape_ok max_dimension d v s && (eqb (length ws) (table_length d s) && own_table d v s ws)
