-- The faces of a cell by position.
use mathlib.Core.Bool.{not}
use mathlib.Core.List.{List, [], ◌∷◌, map}
use mathlib.Core.Path.{◌≡◌, refl, ◌∙◌, ap}
use Prim.Native.Nat.{ℕ, zero, suc, ◌<◌}
use native.Mathlib.Nat.{not-suc-le-zero, le_of_suc-le-suc}
use lib.ListN.{length, get_or, length-map}
use Rattle.simplex.specs.Cell.{Row, Sign, Cell, cell, alternating, no_cell}
use Rattle.simplex.specs.Faces.{without, face, prefixed, faces}
use Rattle.simplex.proofs.Signs.{times_flip}

pub faces-length : (s : Sign) (m : ℕ) (w : Row) → length (faces s m w) ≡ length w
faces-length s m [] = refl
faces-length s m (x ∷ w) = ap suc (length-map (faces (not s) m w) (prefixed x) ∙ faces-length (not s) m w)

map_at : (f : Cell → Cell) (cs : List Cell) (i : ℕ) (c : Cell) → i < length cs → get_or (map f cs) i c ≡ f (get_or cs i c)
map_at f [] i c h = absurd (not-suc-le-zero h)
map_at f (d ∷ cs) zero c h = refl
map_at f (d ∷ cs) (suc i) c h = map_at f cs i c (le_of_suc-le-suc h)

pub face_at_lem : (s : Sign) (m : ℕ) (w : Row) (i : ℕ) → i < length w → get_or (faces s m w) i no_cell ≡ face i (cell s m w)
face_at_lem s m [] i h = absurd (not-suc-le-zero h)
face_at_lem s m (x ∷ w) zero h = refl
face_at_lem s m (x ∷ w) (suc i) h =
    map_at (prefixed x) (faces (not s) m w) i no_cell (rw (faces-length (not s) m w) (le_of_suc-le-suc h))
    ∙ ap (prefixed x) (face_at_lem (not s) m w i (le_of_suc-le-suc h))
    ∙ ap (λ (t : Sign). cell t m (x ∷ without i w)) (times_flip (alternating i) s)
