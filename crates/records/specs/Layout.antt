-- Cells, tables and faces as 16-bit words. Paper, sections 3 and 5. All that depends on where a word stands is here.
--   a list cell       sign word, material, d + 1 vertices
--   a table record    sign word, material, d + 1 ascending vertices, d + 1 wings
--   a face record     sign word, d vertices, material: a face of a cell of dimension d
--   empty             the wing word for no neighbour
--   Entry             a table record: the cell and its wings
--   cell_in d ws p     cell p of a list's words, as it stands there; cells_of d s ws are its s cells
--   entry_in d ws p    entry p of a table's words; entries_of d s ws are its s entries
--   own_list d s ws    a table without its wings: the list of its cells
--   cell_words, entry_words, face_words       the words of a cell of a list, of an entry, of a face
--   table_words, faces_words                 those of a table, and of a list of faces
--   faces_of d n ws    n faces of cells of dimension d, from their records
use Rattle.std.specs.Prelude.{List, [], ◌∷◌, ◌++◌, map, ℕ, suc, ◌+◌, ◌*◌, take, drop, get_or}
use Rattle.words.specs.Records.{tabulate, part, concat}
use Rattle.simplex.specs.Cell.{Cell, cell}
use Rattle.simplex.specs.SignWords.{sign_of, sign_word}

abbrev pub empty : ℕ
empty = 65535

-- words of a list cell, of a table record, and of a face record
abbrev pub list_size : ℕ → ℕ
list_size d = d + 3

abbrev pub record_size : ℕ → ℕ
record_size d = d + d + 4

abbrev pub face_size : ℕ → ℕ
face_size d = d + 2

-- where the material, vertex k and wing a stand in a record
abbrev pub material_place : ℕ
material_place = 1

abbrev pub vertex_place : ℕ → ℕ
vertex_place k = k + 2

abbrev pub wing_place : ℕ → ℕ → ℕ
wing_place d a = list_size d + a

-- words of a cell's wings
abbrev pub wings_size : ℕ → ℕ
wings_size d = suc d

-- words of a list, of a table, and of the wings alone, of s cells
abbrev pub list_length : ℕ → ℕ → ℕ
list_length d s = s * list_size d

abbrev pub table_length : ℕ → ℕ → ℕ
table_length d s = s * record_size d

abbrev pub wings_length : ℕ → ℕ → ℕ
wings_length d s = s * wings_size d

-- the cell of a sign word, a material and its vertices
abbrev pub cell_of : List ℕ → Cell
cell_of r = cell (sign_of (get_or r 0 0)) (get_or r material_place 0) (drop (vertex_place 0) r)

abbrev pub cell_in : ℕ → List ℕ → ℕ → Cell
cell_in d ws p = cell_of (part (list_size d) p ws)

abbrev pub cells_of : ℕ → ℕ → List ℕ → List Cell
cells_of d s ws = tabulate s (cell_in d ws)

pub record Entry : Type 0 where
  pub cell : Cell
  pub wings : List ℕ

-- a record begins with a list cell
abbrev pub entry_of : ℕ → List ℕ → Entry
entry_of d r = record { cell = cell_of (take (list_size d) r); wings = drop (list_size d) r }

abbrev pub entry_in : ℕ → List ℕ → ℕ → Entry
entry_in d ws p = entry_of d (part (record_size d) p ws)

abbrev pub entries_of : ℕ → ℕ → List ℕ → List Entry
entries_of d s ws = tabulate s (entry_in d ws)

abbrev pub own_list : ℕ → ℕ → List ℕ → List ℕ
own_list d s ws = concat (tabulate s (λ p. take (list_size d) (part (record_size d) p ws)))

abbrev pub cell_words : Cell → List ℕ
cell_words c = sign_word c.sign ∷ c.material ∷ c.row

abbrev pub entry_words : Entry → List ℕ
entry_words e = cell_words e.cell ++ e.wings

abbrev pub table_words : List Entry → List ℕ
table_words es = concat (map entry_words es)

abbrev pub face_words : Cell → List ℕ
face_words f = sign_word f.sign ∷ (f.row ++ f.material ∷ [])

abbrev pub faces_words : List Cell → List ℕ
faces_words fs = concat (map face_words fs)

-- the face of a record of a cell of dimension d, and those of n such records
abbrev pub face_of : ℕ → List ℕ → Cell
face_of d r = cell (sign_of (get_or r 0 0)) (get_or r (suc d) 0) (take d (drop 1 r))

abbrev pub faces_of : ℕ → ℕ → List ℕ → List Cell
faces_of d n ws = tabulate n (λ p. face_of d (part (face_size d) p ws))
