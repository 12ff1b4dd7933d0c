-- Neighbours in the seller's own order: what wing writes to its further buffer, against the table. Paper, section 3.
--   UploadedOrder         the laws; UploadedExamples, small solids computed
--   uploaded_vertices i p  the vertices of cell p, as they stand in the list
--   uploaded_record i p    its wings in uploaded order; table_record i p, its wings in the table
--   star c                the triangle c, on 0 1 2, and its neighbours: 2 at the side that lacks 0, 3 at that which lacks 1, 1 at that which lacks 2
use Rattle.std.specs.Prelude.{◌≡◌, List, [], ◌∷◌, ◌++◌, map, ℕ, ◌<◌, length, get_or, take, replicate}
use Prim.Native.String.{String}
use Rattle.words.specs.Records.{part}
use Rattle.words.specs.Text.{ascii}
use Rattle.rules.specs.Calls.{accepted, refused}
use Rattle.simplex.specs.Cell.{Row}
use Rattle.simplex.specs.Order.{places}
use Rattle.simplex.specs.Sort.{Up, occurs}
use Rattle.records.specs.Layout.{empty, wings_size, cell_in, entry_in}
use Rattle.solids.specs.Accept.{Listed}
use Rattle.solids.specs.Table.{table_of_list}
use Rattle.solids.specs.Uploaded.{uploaded_of_list}
use Rattle.wing.specs.Wing.{WingInput, uploaded_length, wing_outcome, wing_buffer, uploaded_buffer}
use Rattle.winged.specs.Host.{host_uploaded_buffer}
use Rattle.theorems.specs.Shorthand.{shown, spelled, list_of, to_wing}

module _ (i : WingInput) (p : ℕ) where
  abbrev pub uploaded_vertices : Row
  uploaded_vertices = (cell_in i.list.d i.list.words p).row

  abbrev pub uploaded_record : List ℕ
  uploaded_record = part (wings_size i.list.d) p (uploaded_of_list i.list)

  abbrev pub table_record : List ℕ
  table_record = (entry_in i.list.d (table_of_list i.list) p).wings

pub record UploadedOrder : Type 0 where
  -- the table's wings are those in uploaded order, read at the places where the cell's vertices stood
  pub sent : (i : WingInput) (n p : ℕ) → wing_outcome i ≡ accepted n → p < i.list.s →
      map (λ j. get_or (uploaded_record i p) j empty) (places (uploaded_vertices i p)) ≡ table_record i p
  -- and each place of the upload is read once, so they are the table's, sent through the places
  pub once : (w : Row) (j : ℕ) → j < length w → occurs j (places w) ≡ 1
  -- of a cell that was uploaded in ascending order they are the table's own
  pub ascending : (i : WingInput) (n p : ℕ) → wing_outcome i ≡ accepted n → p < i.list.s → Up (uploaded_vertices i p) →
      uploaded_record i p ≡ table_record i p
  -- there are s (d + 1) of them
  pub count : (i : WingInput) (n : ℕ) → wing_outcome i ≡ accepted n → length (uploaded_of_list i.list) ≡ uploaded_length i

abbrev pub star : String → Listed
star c = list_of 2 6 (spelled c ∷ spelled "-013" ∷ spelled "-124" ∷ spelled "+025" ∷ [])

-- the triangle's wings, as wing writes them
abbrev pub wings_of_star : String → List ℕ
wings_of_star c = take 3 (uploaded_buffer (to_wing (star c)) (replicate 12 7))

-- the star in these rooms
abbrev pub in_rooms : ℕ → ℕ → WingInput
in_rooms room further = record { list = star "+201"; room = room; uploaded_room = further }

pub record UploadedExamples : Type 0 where
  -- S-1's own cell
  pub stood : places (2 ∷ 0 ∷ 1 ∷ []) ≡ 1 ∷ 2 ∷ 0 ∷ []
  pub written : uploaded_buffer (to_wing (star "+201")) (replicate 14 7) ≡ map shown (ascii "123..0..0..0") ++ (7 ∷ 7 ∷ [])
  pub table : table_record (to_wing (star "+201")) 0 ≡ 2 ∷ 3 ∷ 1 ∷ []
  -- every order of its vertices, the sign following
  pub orders : (wings_of_star "+012" ≡ 2 ∷ 3 ∷ 1 ∷ []) × (wings_of_star "-021" ≡ 2 ∷ 1 ∷ 3 ∷ [])
      × (wings_of_star "-102" ≡ 3 ∷ 2 ∷ 1 ∷ []) × (wings_of_star "+120" ≡ 3 ∷ 1 ∷ 2 ∷ [])
      × (wings_of_star "+201" ≡ 1 ∷ 2 ∷ 3 ∷ []) × (wings_of_star "-210" ≡ 1 ∷ 3 ∷ 2 ∷ [])
  -- row 15 is of either buffer, and a refused call leaves both as they were; the count is the table's
  pub rooms : (wing_outcome (in_rooms 32 12) ≡ accepted 32) × (wing_outcome (in_rooms 31 12) ≡ refused 15)
      × (wing_outcome (in_rooms 32 11) ≡ refused 15)
  pub untouched : (wing_buffer (in_rooms 32 11) (replicate 32 7) ≡ replicate 32 7)
      × (uploaded_buffer (in_rooms 31 12) (replicate 12 7) ≡ replicate 12 7)
  -- a host gets them as bytes: two segments of two materials, the second from vertex 2 to vertex 1
  pub host : host_uploaded_buffer 1 3 2 (0 ∷ 0 ∷ 7 ∷ 0 ∷ 0 ∷ 0 ∷ 1 ∷ 0 ∷ 1 ∷ 0 ∷ 9 ∷ 0 ∷ 2 ∷ 0 ∷ 1 ∷ 0 ∷ []) (replicate 24 7) (replicate 9 7)
      ≡ 1 ∷ 0 ∷ 255 ∷ 255 ∷ 0 ∷ 0 ∷ 255 ∷ 255 ∷ 7 ∷ []
