-- Short forms in which the examples are written.
--   spelled "+0124"       a sign and a row of vertices below 10, of material 0; made m "+0124" of material m
--   entry "+0124" "1..."  a table entry: a cell and its wings, a point for the empty wing
--   list_of d v cs         a list of cells as wing takes it
--   swept h l             what sweep takes: the table that wing writes for the list, and h steps
--   swept_entries h l      the entries of the swept table
--   faces_of_swept h l      what faces takes: the swept table
use Rattle.std.specs.Prelude.{cond, List, map, ℕ, suc, ◌-◌, eqb, length, drop, get_or, Float}
use Prim.Native.String.{String}
use Rattle.std.specs.Float.{binary64}
use Rattle.std.specs.Float.Ieee.{of_bits}
use Rattle.words.specs.Records.{concat}
use Rattle.words.specs.Text.{ascii}
use Rattle.rules.specs.Limits.{swept_vertices}
use Rattle.simplex.specs.Cell.{Cell, cell}
use Rattle.records.specs.Layout.{empty, Entry, cell_words, entries_of}
use Rattle.solids.specs.Accept.{Listed}
use Rattle.solids.specs.Table.{table_of_list}
use Rattle.wing.specs.Wing.{WingInput}
use Rattle.prism.specs.Swept.{swept_cells}
use Rattle.sweep.specs.Sweep.{SweepInput, swept_words}
use Rattle.boundary.specs.Faces.{FacesInput}

-- a digit's value; a point, byte 46, is the empty wing
abbrev pub shown : ℕ → ℕ
shown x = cond (eqb x 46) empty (x - 48)

abbrev pub made : ℕ → String → Cell
made m t = cell (eqb (get_or (ascii t) 0 0) 43) m (map shown (drop 1 (ascii t)))

abbrev pub spelled : String → Cell
spelled t = made 0 t

abbrev pub entry : String → String → Entry
entry t ws = record { cell = spelled t; wings = map shown (ascii ws) }

abbrev pub list_of : ℕ → ℕ → List Cell → Listed
list_of d v cs = record { d = d; v = v; s = length cs; words = concat (map cell_words cs) }

-- 0.0, 1.0, -1.0 and 1,048,575 by their bits
abbrev pub origin : Float
origin = of_bits binary64 0

abbrev pub one : Float
one = of_bits binary64 0x3ff0000000000000

abbrev pub minus_one : Float
minus_one = of_bits binary64 0xbff0000000000000

abbrev pub large : Float
large = of_bits binary64 0x412ffffe00000000

-- rooms are ample unless an example says otherwise
abbrev pub ample : ℕ
ample = 65536

abbrev pub to_wing : Listed → WingInput
to_wing l = record { list = l; room = ample; uploaded_room = ample }

abbrev pub swept : ℕ → Listed → SweepInput
swept h l = record { d = l.d; v = l.v; s = l.s; h = h; table = table_of_list l; room = ample }

abbrev pub swept_entries : ℕ → Listed → List Entry
swept_entries h l = entries_of (suc l.d) (swept_cells l.d l.s h) (swept_words (swept h l))

abbrev pub faces_of_swept : ℕ → Listed → FacesInput
faces_of_swept h l =
    record { d = suc l.d; v = swept_vertices l.v h; s = swept_cells l.d l.s h; table = swept_words (swept h l); room = ample }
