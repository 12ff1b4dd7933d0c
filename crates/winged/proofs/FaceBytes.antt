-- The bytes of faces are those of their words.
-- Assumes nothing.
use mathlib.Core.Path.{◌≡◌, refl, ◌∙◌}
use mathlib.Core.List.{List, [], ◌∷◌}
use Rattle.words.specs.Bytes.{bytes_of}
use Rattle.simplex.specs.Cell.{Cell}
use Rattle.records.specs.Layout.{face_words, faces_words}
use Rattle.direct.proofs.WordBytes.{bytes-append}
use Rattle.winged.specs.Inner.Sent.{faces_bytes}

pub bytes-faces : (fs : List Cell) → bytes_of (faces_words fs) ≡ faces_bytes fs
bytes-faces [] = refl
bytes-faces (f ∷ fs) = bytes-append (face_words f) (faces_words fs) ∙ rw (bytes-faces fs)
