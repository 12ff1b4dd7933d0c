-- The lines of the key, computed.
use mathlib.Core.Path.{◌≡◌, refl}
use mathlib.Core.Bool.{false}
use mathlib.Core.List.{[], ◌∷◌}
use Rattle.words.specs.Text.{ascii}
use Rattle.simplex.specs.Cell.{cell}
use Rattle.printing.specs.Decimal.{digits}
use Rattle.listing.specs.Lines.{face_line}

-- in version 1, and with its material in version 2
pub a_face : face_line 1 (cell false 7 (2 ∷ 10 ∷ [])) ≡ ascii "- 2 10\n"
unfolding digits face_line
a_face = refl

pub a_face_with_material : face_line 2 (cell false 7 (2 ∷ 10 ∷ [])) ≡ ascii "- 2 10 7\n"
unfolding digits face_line
a_face_with_material = refl
