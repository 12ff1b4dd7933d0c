-- A line writer, and after a piece of text.
--   writer_at buf at       the writer of these lent bytes at this place
--   advanced w text       the same lent bytes with text at the writer's place, and the place after it
use Rattle.std.specs.Prelude.{List, ℕ, ◌+◌, length}
use denote.Ref.{MutBor, at_last}
use Rattle.words.specs.Inner.Placed.{placed}
use Rattle.printing.specs.declared.line_writer.LineWriter.{LineWriter}

abbrev pub writer_at : MutBor (List ℕ) → ℕ → LineWriter
writer_at buf at = record { buf = buf; at = at }

-- the reference keeps its pointer and its name
abbrev pub advanced : LineWriter → List ℕ → LineWriter
advanced w text = record { buf = at_last w.buf (placed w.at text w.buf.now); at = w.at + length text }
