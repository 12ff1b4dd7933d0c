-- The lines of the key, in the form of version k: version 2 has materials. Paper, section 8.
--   first_line d n v f             "key", dimension, axes, vertices, faces
--   vertex_lines n v ps            for each vertex "v", its number, its coordinates
--   face_fields k f                the numbers of a face's line: its vertices, and in version 2 its material
--   face_lines k fs                for each face "+" or "-", and these
--   key_text k d n v ps fs         the whole key
use Rattle.std.specs.Prelude.{List, [], ◌∷◌, ◌++◌, map, true, false, cond, ℕ, Float, length}
use Rattle.words.specs.Records.{tabulate, part, concat}
use Rattle.words.specs.Text.{ascii}
use Rattle.rules.specs.Limits.{with_materials}
use Rattle.simplex.specs.Cell.{Sign, Cell}
use Rattle.printing.specs.Decimal.{digits, coordinate}
use Rattle.printing.specs.Fields.{line}

abbrev pub key_word : List ℕ
key_word = ascii "key"

abbrev pub vertex_word : List ℕ
vertex_word = ascii "v"

abbrev pub sign_text : Sign → List ℕ
sign_text true = ascii "+"
sign_text false = ascii "-"

unfoldable pub first_line : ℕ → ℕ → ℕ → ℕ → List ℕ
first_line d n v f = line key_word (digits d ∷ digits n ∷ digits v ∷ digits f ∷ [])

unfoldable pub vertex_line : ℕ → List Float → ℕ → List ℕ
vertex_line n ps p = line vertex_word (digits p ∷ map coordinate (part n p ps))

abbrev pub vertex_lines : ℕ → ℕ → List Float → List ℕ
vertex_lines n v ps = concat (tabulate v (vertex_line n ps))

abbrev pub face_fields : ℕ → Cell → List ℕ
face_fields k f = f.row ++ cond (with_materials k) (f.material ∷ []) []

unfoldable pub face_line : ℕ → Cell → List ℕ
face_line k f = line (sign_text f.sign) (map digits (face_fields k f))

abbrev pub face_lines : ℕ → List Cell → List ℕ
face_lines k fs = concat (map (face_line k) fs)

unfoldable pub key_text : ℕ → ℕ → ℕ → ℕ → List Float → List Cell → List ℕ
key_text k d n v ps fs = first_line d n v (length fs) ++ (vertex_lines n v ps ++ face_lines k fs)
