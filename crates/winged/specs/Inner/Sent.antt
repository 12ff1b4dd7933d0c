-- Between the calls and C: outcomes of what was decoded, and what of the words goes to the lent bytes.
--   lesser a b        the lesser of two numbers
--   table_room         words of the largest table
--   small_table d s most    a table of s cells of dimension d has at most so many words, or there is none such
--   SweepRoom d s h table k m    the table has its length in bytes, k words have room for it, and m words for its sweep in h steps
--   count_of o         the count of an accepted outcome; 0 of a refused one
--   sent o t out      the lent bytes when the outcome's count of the words t has gone to their start
--   wing_read, sweep_read    the outcomes in rooms of so many words
--   face_bytes, faces_bytes   the bytes of a face's record, and of those of a list of faces
--   faces_answer, faces_after    what faces answers and leaves in the lent bytes, told from the table's words
use Rattle.std.specs.Prelude.{Bool, cond, ◌&&◌, ◌||◌, List, ◌++◌, map, ◌≡◌, ℕ, suc, ◌*◌, ◌≤◌, leb, ltb, ℤ, length, take, drop}
use Rattle.words.specs.Records.{concat}
use Rattle.words.specs.Bytes.{words16, bytes_of}
use Rattle.rules.specs.Limits.{max_dimension, max_source, max_cells, steps_ok}
use Rattle.rules.specs.Shapes.{shape_ok}
use Rattle.rules.specs.Calls.{Outcome, accepted, refused, after}
use Rattle.simplex.specs.Cell.{Cell}
use Rattle.records.specs.Layout.{table_length, face_words, faces_words}
use Rattle.wing.specs.Wing.{wing_input, wing_outcome}
use Rattle.prism.specs.Swept.{swept_cells}
use Rattle.sweep.specs.Sweep.{sweep_outcome, sweep_input}
use Rattle.boundary.specs.Faces.{faces_input, FacesInput, boundary_cells, faces_outcome}
use Rattle.winged.specs.Host.{hosted, host_answer, words_in, in_words}

abbrev pub lesser : ℕ → ℕ → ℕ
lesser a b = cond (leb a b) a b

abbrev pub table_room : ℕ
table_room = table_length max_dimension max_cells

abbrev pub small_table : ℕ → ℕ → ℕ → Bool
small_table d s most = ltb max_dimension d || (ltb max_cells s || leb (table_length d s) most)

pub record SweepRoom (d s h : ℕ) (table : List ℕ) (k m : ℕ) : Type 0 where
  pub size : length table ≡ table_length d s * 2
  pub solid : table_length d s ≤ k
  pub swept : table_length (suc d) (swept_cells d s h) ≤ m

abbrev pub count_of : Outcome ℕ → ℕ
count_of (accepted n) = n
count_of (refused n) = 0

abbrev pub sent : Outcome ℕ → List ℕ → List ℕ → List ℕ
sent (accepted n) t out = bytes_of (take n t) ++ drop (n * 2) out
sent (refused n) t out = out

unfoldable pub wing_read : ℕ → ℕ → ℕ → List ℕ → ℕ → ℕ → Outcome ℕ
wing_read d v s cells room further = hosted (shape_ok max_dimension d v s) cells (wing_outcome (wing_input d v s (words16 cells) room further))

unfoldable pub sweep_read : ℕ → ℕ → ℕ → ℕ → List ℕ → ℕ → Outcome ℕ
sweep_read d v s h table room = hosted (shape_ok max_source d v s && steps_ok h) table (sweep_outcome (sweep_input d v s h (words16 table) room))

abbrev pub face_bytes : Cell → List ℕ
face_bytes f = bytes_of (face_words f)

abbrev pub faces_bytes : List Cell → List ℕ
faces_bytes fs = concat (map face_bytes fs)

module _ (d v s : ℕ) (ws out : List ℕ) where
  abbrev pub faces_in : FacesInput
  faces_in = faces_input d v s ws (words_in out)

  unfoldable pub faces_answer : ℤ
  faces_answer = host_answer (in_words d v s ws out (faces_outcome faces_in))

  unfoldable pub faces_after : List ℕ
  faces_after = after (faces_outcome faces_in) (bytes_of (faces_words (boundary_cells faces_in))) out
