-- The text that the program key prints for any input: it reads, wings, sweeps, moves and lists, in the form of the file's version.
-- Paper, section 8.
--   input_limit        a longer input is refusal 3 before all else
--   word_room, float_room, byte_room     the rooms of the lent buffers: 65,536 bytes each
--   key_outcome b      the key's text, or the first refused call's number
--   printed b         what is printed
--   text_outcome b room    key_text's answer: the count of bytes printed; row 15 if the lent bytes are too few for them
--   text_buffer b out      the lent bytes after key_text
use Rattle.std.specs.Prelude.{cond, List, ◌++◌, ℕ, suc, ltb, length}
use Rattle.words.specs.Text.{ascii}
use Rattle.rules.specs.Limits.{swept_vertices}
use Rattle.rules.specs.Calls.{Outcome, accepted, refused, after}
use Rattle.solids.specs.Table.{table_of_list}
use Rattle.wing.specs.Wing.{WingInput, wing_outcome}
use Rattle.prism.specs.Swept.{swept_cells}
use Rattle.sweep.specs.Sweep.{SweepInput, swept_words, sweep_outcome}
use Rattle.motion.specs.Move.{MoveInput, moved_levels, move_outcome}
use Rattle.read.specs.declared.Header.{Header}
use Rattle.file.specs.File.{file_points}
use Rattle.file.specs.Tests.{file_words}
use Rattle.read.specs.Read.{ReadInput, read_outcome}
use Rattle.list.specs.List.{ListInput, list_text, list_outcome}
use Rattle.printing.specs.Decimal.{digits}

abbrev pub input_limit : ℕ
input_limit = 65536

abbrev pub byte_room : ℕ
byte_room = 65536

abbrev pub word_room : ℕ
word_room = 32768

abbrev pub float_room : ℕ
float_room = 8192

-- the next call, unless this one refuses
abbrev pub then_call : {A B : Type 0} → Outcome A → (A → Outcome B) → Outcome B
then_call (accepted a) next = next a
then_call (refused n) next = refused n

abbrev pub read_in : List ℕ → ReadInput
read_in b = record { bytes = b; cell_room = word_room; point_room = float_room }

abbrev pub wing_in : List ℕ → Header → WingInput
wing_in b x = record { list = record { d = x.d; v = x.v; s = x.s; words = file_words b }; room = word_room; uploaded_room = word_room }

abbrev pub sweep_in : List ℕ → Header → SweepInput
sweep_in b x = record { d = x.d; v = x.v; s = x.s; h = x.h; table = table_of_list (wing_in b x).list; room = word_room }

abbrev pub move_in : List ℕ → Header → MoveInput
move_in b x = record { n = x.n; v = x.v; h = x.h; step = x.step; points = file_points b; room = float_room }

abbrev pub list_in : List ℕ → Header → ListInput
list_in b x =
    record {
      version = x.version;
      d = suc x.d;
      n = x.n;
      v = swept_vertices x.v x.h;
      s = swept_cells x.d x.s x.h;
      table = swept_words (sweep_in b x);
      points = moved_levels (move_in b x);
      room = byte_room;
    }

-- the calls after read, one after the other
abbrev pub calls_on : List ℕ → Header → Outcome (List ℕ)
calls_on b x =
    then_call (wing_outcome (wing_in b x)) (λ t. then_call (sweep_outcome (sweep_in b x)) (λ w. then_call (move_outcome (move_in b x)) (λ m.
    then_call (list_outcome (list_in b x)) (λ k. accepted (list_text (list_in b x))))))

unfoldable pub key_outcome : List ℕ → Outcome (List ℕ)
key_outcome b = let r = then_call (read_outcome (read_in b)) (calls_on b) in cond (ltb input_limit (length b)) (refused 3) r

-- "refused " and the number, or the key
abbrev pub spoken : Outcome (List ℕ) → List ℕ
spoken (accepted text) = text
spoken (refused n) = ascii "refused " ++ (digits n ++ ascii "\n")

unfoldable pub printed : List ℕ → List ℕ
printed b = spoken (key_outcome b)

unfoldable pub text_outcome : List ℕ → ℕ → Outcome ℕ
text_outcome b room = cond (ltb room (length (printed b))) (refused 15) (accepted (length (printed b)))

unfoldable pub text_buffer : List ℕ → List ℕ → List ℕ
text_buffer b out = after (text_outcome b (length out)) (printed b) out
