-- How many boundary faces a table has, and how many words they take.
--   faces-few         at most 8 to a cell
--   words_long        face_size d words to a face
-- Assumes nothing.
use mathlib.Core.Path.{◌≡◌}
use mathlib.Core.Bool.{Bool, true, false, cond}
use mathlib.Core.List.{List, [], ◌∷◌}
use Prim.Native.Nat.{ℕ, zero, suc, ◌*◌, ◌≤◌, ◌<◌}
use native.Mathlib.Nat.{suc-mul}
use native.Mathlib.Omega.{arith}
use lib.Dec.{eqb}
use lib.ListN.{length, length-append}
use Rattle.words.specs.Records.{tabulate, part}
use Rattle.simplex.specs.Cell.{Row, Cell, filled}
use Rattle.simplex.specs.Faces.{faces, keep}
use Rattle.simplex.proofs.Each.{All, All-append, All-keep}
use Rattle.simplex.proofs.FaceCounts.{faces-long}
use Rattle.simplex.proofs.Faces.{faces-length}
use Rattle.simplex.proofs.Rows.{Long}
use Rattle.records.specs.Layout.{Entry, empty, record_size, face_size, entry_in, face_words, faces_words}
use Rattle.records.specs.Inner.Inside.{Table}
use Rattle.records.proofs.Places.{record_long, row-long}
use Rattle.boundary.specs.Boundary.{at_empty, boundary_of}
use Rattle.boundary.specs.Inner.Walk.{table_faces, cell_from}

one_more : (t : Bool) (f : Cell) (r : List Cell) (k : ℕ) → length r ≤ k → length (cond t (f ∷ r) r) ≤ suc k
one_more true f r k h = omega arith
one_more false f r k h = omega arith

keep-few : (q : Cell → Bool) (fs : List Cell) → length (keep q fs) ≤ length fs
keep-few q [] = omega arith
keep-few q (f ∷ fs) = one_more (q f) f (keep q fs) (length fs) (keep-few q fs)

empty-few : (fs : List Cell) (ws : List ℕ) → length (at_empty fs ws) ≤ length fs
empty-few [] ws = omega arith
empty-few (f ∷ fs) [] = omega arith
empty-few (f ∷ fs) (w ∷ ws) = one_more (eqb w empty) f (at_empty fs ws) (length fs) (empty-few fs ws)

empty_all : (R : Row → Type 0) (fs : List Cell) (ws : List ℕ) → All R fs → All R (at_empty fs ws)
empty_all R [] ws a = tt
empty_all R (f ∷ fs) [] a = tt
empty_all R (f ∷ fs) (w ∷ ws) a = go (eqb w empty) (empty_all R fs ws a.1)
  where
    go : (t : Bool) → All R (at_empty fs ws) → All R (cond t (f ∷ at_empty fs ws) (at_empty fs ws))
    go true r = (a.0, r)
    go false r = r

module _ (d : ℕ) where
  boundary-few : d ≤ 7 → (n : ℕ) (f : ℕ → Entry) → ((p : ℕ) → p < n → length (f p).cell.row ≡ suc d) → length (boundary_of (tabulate n f)) ≤ n * 8
  boundary-few h zero f e = omega arith
  boundary-few h (suc n) f e =
      let fs = faces (f 0).cell.sign (f 0).cell.material (f 0).cell.row in
      omega (
        arith,
        length-append (cell_from 0 (f 0)) (boundary_of (tabulate n (λ p. f (suc p)))),
        keep-few (λ c. filled c.row) (at_empty fs (f 0).wings),
        empty-few fs (f 0).wings,
        faces-length (f 0).cell.sign (f 0).cell.material (f 0).cell.row,
        e 0 (omega arith),
        boundary-few h n (λ p. f (suc p)) (λ p l. e (suc p) (omega arith)),
      )

  boundary_rows : (n : ℕ) (f : ℕ → Entry) → ((p : ℕ) → p < n → length (f p).cell.row ≡ suc d) → All (Long d) (boundary_of (tabulate n f))
  boundary_rows zero f e = tt
  boundary_rows (suc n) f e =
      let fs = faces (f 0).cell.sign (f 0).cell.material (f 0).cell.row in
      All-append (Long d) (cell_from 0 (f 0)) (boundary_of (tabulate n (λ p. f (suc p))))
      (All-keep (Long d) (λ c. filled c.row) (at_empty fs (f 0).wings)
      (empty_all (Long d) fs (f 0).wings (faces-long d (f 0).cell.sign (f 0).cell.material (f 0).cell.row (e 0 (omega arith)))))
      (boundary_rows n (λ p. f (suc p)) (λ p l. e (suc p) (omega arith)))

  rows_words : (fs : List Cell) → All (Long d) fs → length (faces_words fs) ≡ length fs * face_size d
  rows_words [] a = omega arith
  rows_words (f ∷ fs) a =
      omega (
        arith,
        length-append (face_words f) (faces_words fs),
        length-append f.row (f.material ∷ []),
        a.0,
        rows_words fs a.1,
        suc-mul (length fs) (face_size d),
      )

module _ (d s : ℕ) (ws : List ℕ) (t : Table d s ws) where
  rows : (p : ℕ) → p < s → length (entry_in d ws p).cell.row ≡ suc d
  rows p h = row-long d (part (record_size d) p ws) (record_long d s p ws h t.long)

  pub faces-few : length (table_faces d s ws) ≤ 32768
  faces-few = omega (arith, boundary-few d t.dimension s (entry_in d ws) rows, t.cells)

  pub words_long : length (faces_words (table_faces d s ws)) ≡ length (table_faces d s ws) * face_size d
  words_long = rows_words d (table_faces d s ws) (boundary_rows d s (entry_in d ws) rows)
