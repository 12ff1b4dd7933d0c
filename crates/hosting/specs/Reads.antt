-- The call read on bytes: the header's parts, the cells' words and the points' floats, each to its lent bytes. Paper, section 10.
--   header_bytes b     42 bytes: d, n, v, s, h, kind and two axes as words of 16 bits, then three floats, bit for bit as in the file,
--                     then the version, as in the file
--   point_bytes b      the points, bit for bit as in the file
--   word_count b o     the count of the cells' words, or the refusal
--   with_header room o     the outcome, but row 15 where the header's bytes are too few
--   host_read_outcome (the count of words), host_read_header, host_read_cells, host_read_points (the three lent buffers)
-- What a step leaves unused is 0 in every file that is accepted.
use Rattle.std.specs.Prelude.{cond, List, [], ◌∷◌, ◌++◌, ℕ, ◌*◌, ◌/◌, ltb, length, take, drop}
use Rattle.words.specs.Bytes.{bytes_of}
use Rattle.rules.specs.Calls.{Outcome, accepted, refused, after}
use Rattle.file.specs.File.{header_size, dimension_of, axes_of, vertex_count_of, cell_count_of, steps_of, kind_of, axis_of, point_count}
use Rattle.file.specs.Tests.{cells_length, file_words}
use Rattle.read.specs.declared.Header.{Header}
use Rattle.read.specs.Read.{read_input, read_outcome}

abbrev pub header_words : List ℕ → List ℕ
header_words b =
    dimension_of b ∷ axes_of b ∷ vertex_count_of b ∷ cell_count_of b ∷ steps_of b ∷ kind_of b ∷ axis_of b 0 ∷ axis_of b 1 ∷ []

abbrev pub told_size : ℕ
told_size = 42

unfoldable pub header_bytes : List ℕ → List ℕ
header_bytes b = (bytes_of (header_words b) ++ take 24 (drop 16 b)) ++ take 2 (drop 3 b)

unfoldable pub point_bytes : List ℕ → List ℕ
point_bytes b = take (point_count b * 8) (drop header_size b)

abbrev pub word_count : List ℕ → Outcome Header → Outcome ℕ
word_count b (accepted x) = accepted (cells_length b)
word_count b (refused n) = refused n

abbrev pub with_header : ℕ → Outcome ℕ → Outcome ℕ
with_header room (accepted n) = cond (ltb room told_size) (refused 15) (accepted n)
with_header room (refused n) = refused n

module _ (b header cells points : List ℕ) where
  unfoldable pub host_read_outcome : Outcome ℕ
  host_read_outcome = with_header (length header) (word_count b (read_outcome (read_input b (length cells / 2) (length points / 8))))

  unfoldable pub host_read_header : List ℕ
  host_read_header = after host_read_outcome (header_bytes b) header

  unfoldable pub host_read_cells : List ℕ
  host_read_cells = after host_read_outcome (bytes_of (file_words b)) cells

  unfoldable pub host_read_points : List ℕ
  host_read_points = after host_read_outcome (point_bytes b) points
