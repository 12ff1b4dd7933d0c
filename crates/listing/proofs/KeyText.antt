-- The key in its pieces.
--   counts_text        the first line, from its word and the four counts
--   key_pieces        the first line, the vertex lines, the face lines
--   first_fits        a buffer as long as the key has room for the first line;
--   vertices_left     that written, for the vertex lines;
--   faces_left        those written, for the face lines;
--   key_put           and with them the key is written
-- Assumes nothing.
use mathlib.Core.Path.{◌≡◌, sym, ap, subst}
use mathlib.Core.List.{List, [], ◌∷◌, ◌++◌, map}
use Prim.Native.Nat.{ℕ, ◌+◌, ◌≤◌}
use native.Mathlib.Omega.{arith}
use lib.Ieee.{Float}
use lib.ListN.{length}
use Rattle.simplex.specs.Cell.{Cell}
use Rattle.printing.specs.Decimal.{digits}
use Rattle.printing.specs.Fields.{line}
use Rattle.words.specs.Inner.Placed.{Put}
use Rattle.words.proofs.Writing.{Left, left_starts, left_fits, left_goes, left_last}
use Rattle.listing.specs.Lines.{key_word, first_line, vertex_lines, face_lines, key_text}

abbrev pub counts_text : ℕ → ℕ → ℕ → ℕ → List ℕ
counts_text d n v f = line key_word (map digits (d ∷ n ∷ v ∷ f ∷ []))

-- f faces, as the first line has it
module _ (k d n v : ℕ) (ps : List Float) (fs : List Cell) (f : ℕ) (e : f ≡ length fs) where
  abbrev lines : List ℕ
  lines = vertex_lines n v ps ++ face_lines k fs

  abbrev pieces : List ℕ
  pieces = counts_text d n v f ++ lines

  key_pieces : key_text k d n v ps fs ≡ pieces
  unfolding key_text first_line
  key_pieces = rw e

  module _ (buf : List ℕ) (room : length (key_text k d n v ps fs) ≤ length buf) where
    start : Left 0 pieces buf 0 pieces buf
    start = left_starts 0 pieces buf (omega (arith, room, ap length key_pieces))

    pub first_fits : 0 + length (counts_text d n v f) ≤ length buf
    first_fits = left_fits (counts_text d n v f) lines start

    module _ {cur : ℕ} {one : List ℕ} (first : Put 0 (counts_text d n v f) buf cur one) where
      pub vertices_left : Left 0 pieces buf cur lines one
      vertices_left = left_goes (counts_text d n v f) lines cur one start first

      module _ {next : ℕ} {two : List ℕ} (vertices : Put cur (vertex_lines n v ps) one next two) where
        pub faces_left : Left 0 pieces buf next (face_lines k fs) two
        faces_left = left_goes (vertex_lines n v ps) (face_lines k fs) next two vertices_left vertices

        pub key_put : {last : ℕ} {new : List ℕ} → Put next (face_lines k fs) two last new → Put 0 (key_text k d n v ps fs) buf last new
        key_put {last} {new} faces = subst (λ text. Put 0 text buf last new) (sym key_pieces) (left_last (face_lines k fs) last new faces_left faces)
