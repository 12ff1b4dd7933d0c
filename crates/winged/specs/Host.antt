-- What a host in C gets: wing, sweep and faces on numbers and byte slices, words little-endian. Paper, section 10.
--   host_answer f o        the count of words written, or minus the refusal's number
--   host_wing, host_sweep, host_faces                  the answers
--   host_wing_buffer, host_sweep_buffer, host_faces_buffer    the lent bytes after the call
--   host_uploaded_buffer    the further bytes that wing is lent, for the wings in uploaded order, after the call
-- An input of an odd number of bytes is row 3; of an output only whole words count.
use Rattle.std.specs.Prelude.{Bool, cond, ◌&&◌, List, ℕ, ◌*◌, ◌/◌, ◌%◌, eqb, ℤ, pos, neg_ℤ, length}
use Rattle.words.specs.Bytes.{words16, bytes_of}
use Rattle.rules.specs.Limits.{max_dimension, max_source, steps_ok}
use Rattle.rules.specs.Shapes.{shape_ok}
use Rattle.rules.specs.Calls.{Outcome, accepted, refused, after}
use Rattle.solids.specs.Accept.{Listed}
use Rattle.records.specs.Layout.{face_size, faces_words}
use Rattle.solids.specs.Table.{table_of_list}
use Rattle.solids.specs.Uploaded.{uploaded_of_list}
use Rattle.wing.specs.Wing.{WingInput, wing_outcome}
use Rattle.sweep.specs.Sweep.{SweepInput, swept_words, sweep_outcome}
use Rattle.boundary.specs.Faces.{FacesInput, boundary_cells, faces_outcome}

-- the call's outcome, but row 3 where the numbers are within the limits and the bytes are odd
abbrev pub hosted : Bool → List ℕ → Outcome ℕ → Outcome ℕ
hosted numbers_ok bytes o = cond (numbers_ok && eqb (length bytes % 2) 1) (refused 3) o

abbrev pub host_answer : Outcome ℕ → ℤ
host_answer (accepted n) = pos n
host_answer (refused n) = neg_ℤ (pos n)

-- whole words of a lent buffer
abbrev pub words_in : List ℕ → ℕ
words_in out = length out / 2

abbrev pub host_list : ℕ → ℕ → ℕ → List ℕ → Listed
host_list d v s cells = record { d = d; v = v; s = s; words = words16 cells }

module _ (d v s : ℕ) (cells out further : List ℕ) where
  abbrev pub host_wing_input : WingInput
  host_wing_input = record { list = host_list d v s cells; room = words_in out; uploaded_room = words_in further }

  unfoldable pub host_wing_outcome : Outcome ℕ
  host_wing_outcome = hosted (shape_ok max_dimension d v s) cells (wing_outcome host_wing_input)

  unfoldable pub host_wing : ℤ
  host_wing = host_answer host_wing_outcome

  unfoldable pub host_wing_buffer : List ℕ
  host_wing_buffer = after host_wing_outcome (bytes_of (table_of_list (host_list d v s cells))) out

  unfoldable pub host_uploaded_buffer : List ℕ
  host_uploaded_buffer = after host_wing_outcome (bytes_of (uploaded_of_list (host_list d v s cells))) further

module _ (d v s h : ℕ) (table out : List ℕ) where
  abbrev pub host_sweep_input : SweepInput
  host_sweep_input = record { d = d; v = v; s = s; h = h; table = words16 table; room = words_in out }

  unfoldable pub host_sweep_outcome : Outcome ℕ
  host_sweep_outcome = hosted (shape_ok max_source d v s && steps_ok h) table (sweep_outcome host_sweep_input)

  unfoldable pub host_sweep : ℤ
  host_sweep = host_answer host_sweep_outcome

  unfoldable pub host_sweep_buffer : List ℕ
  host_sweep_buffer = after host_sweep_outcome (bytes_of (swept_words host_sweep_input)) out

module _ (d v s : ℕ) (table out : List ℕ) where
  abbrev pub host_faces_input : FacesInput
  host_faces_input = record { d = d; v = v; s = s; table = words16 table; room = words_in out }

  -- the count of records
  unfoldable pub host_faces_outcome : Outcome ℕ
  host_faces_outcome = hosted (shape_ok max_dimension d v s) table (faces_outcome host_faces_input)

  -- the count of words
  abbrev pub in_words : Outcome ℕ → Outcome ℕ
  in_words (accepted n) = accepted (n * face_size d)
  in_words (refused n) = refused n

  unfoldable pub host_faces : ℤ
  host_faces = host_answer (in_words host_faces_outcome)

  unfoldable pub host_faces_buffer : List ℕ
  host_faces_buffer = after host_faces_outcome (bytes_of (faces_words (boundary_cells host_faces_input))) out
