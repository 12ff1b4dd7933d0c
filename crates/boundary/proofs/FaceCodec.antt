-- Faces as words, and back.
--   faces-back        records of faces of d vertices give the faces back
-- Assumes nothing.
use mathlib.Core.Path.{◌≡◌, ap, ◌∙◌}
use mathlib.Core.List.{List, [], ◌∷◌, ◌++◌, map}
use Prim.Native.Nat.{ℕ}
use native.Mathlib.Omega.{arith}
use lib.ListN.{length, get_or, take, length-append}
use lib.Seq.{take_at}
use Rattle.words.specs.Records.{part}
use Rattle.words.proofs.Records.{EachLong, tabulate_ext, tabulate_get_d}
use Rattle.simplex.specs.Cell.{Cell, cell, no_cell}
use Rattle.simplex.proofs.Each.{All}
use Rattle.simplex.proofs.Rows.{Long}
use Rattle.records.specs.Layout.{face_of, face_size, faces_of, face_words, faces_words}
use Rattle.solids.proofs.Codec.{sign-back, words_record}
use Rattle.solids.proofs.Solid.{all_at}
use Rattle.solids.proofs.Tables.{cell_at}
use Rattle.boundary.proofs.FaceWords.{at_end}

words_long : (d : ℕ) (fs : List Cell) → All (Long d) fs → EachLong (face_size d) (map face_words fs)
words_long d [] a = tt
words_long d (f ∷ fs) a = (omega (arith, a.0, length-append f.row (f.material ∷ [])), words_long d fs a.1)

face-back : (d : ℕ) (f : Cell) → length f.row ≡ d → face_of d (face_words f) ≡ f
face-back d f e =
    ap (λ s. cell s (get_or (f.row ++ f.material ∷ []) d 0) (take d (f.row ++ f.material ∷ []))) (sign-back f.sign)
    ∙ ap (λ m. cell f.sign m (take d (f.row ++ f.material ∷ []))) (at_end f.row f.material d e)
    ∙ ap (λ w. cell f.sign f.material w) (take_at f.row (f.material ∷ []) d e)

pub faces-back : (d : ℕ) (fs : List Cell) → All (Long d) fs → faces_of d (length fs) (faces_words fs) ≡ fs
faces-back d fs long =
    tabulate_ext (length fs) (λ p. face_of d (part (face_size d) p (faces_words fs))) (λ p. cell_at fs p)
    (λ p h. ap (face_of d) (words_record (face_size d) face_words fs p (words_long d fs long) h)
    ∙ face-back d (cell_at fs p) (all_at (Long d) fs long p h))
    ∙ tabulate_get_d no_cell fs
