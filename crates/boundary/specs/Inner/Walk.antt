-- Boundary faces of a table from a place on: by cell, and then position.
--   table_faces d s ws         all of them
--   face_at d ws p a           face a of cell p
--   on_boundary d ws p a       there is a face a of cell p, and its wing is empty
--   faces_from d s ws p a      the boundary faces from position a of cell p on
--   AtFace d s ws p a         the place is on the boundary, or position 0 behind the last cell
--   NextPosition d s ws p a b     b is the first position of cell p on the boundary, from a on, or behind the last
--   Between d s ws p q b t    t says whether a boundary face stands from cell p on and before (q, b)
--   NextCell d s ws p q       q is the first cell that has one, from p on, or s
--   NextFace d s ws p a q b   (q, b) is the first such place at (p, a) or behind it
use Rattle.std.specs.Prelude.{◌≡◌, Bool, true, false, ◌&&◌, List, [], ◌∷◌, ◌++◌, ℕ, ◌+◌, ◌≤◌, ◌<◌, eqb, ltb, length, drop}
use Rattle.simplex.specs.Cell.{Cell, filled}
use Rattle.simplex.specs.Faces.{face, faces, keep}
use Rattle.records.specs.Layout.{empty, Entry, entry_in, entries_of}
use Rattle.records.specs.Inner.Inside.{wing_in}
use Rattle.boundary.specs.Boundary.{at_empty, boundary_of}

abbrev pub table_faces : ℕ → ℕ → List ℕ → List Cell
table_faces d s ws = boundary_of (entries_of d s ws)

abbrev pub face_at : ℕ → List ℕ → ℕ → ℕ → Cell
face_at d ws p a = face a (entry_in d ws p).cell

abbrev pub on_boundary : ℕ → List ℕ → ℕ → ℕ → Bool
on_boundary d ws p a = ltb 0 d && eqb (wing_in d ws p a) empty

-- of one entry, and of a list of entries
abbrev pub cell_from : ℕ → Entry → List Cell
cell_from a e = keep (λ f. filled f.row) (at_empty (drop a (faces e.cell.sign e.cell.material e.cell.row)) (drop a e.wings))

abbrev pub entries_from : ℕ → List Entry → List Cell
entries_from a [] = []
entries_from a (e ∷ es) = cell_from a e ++ boundary_of es

unfoldable pub faces_from : ℕ → ℕ → List ℕ → ℕ → ℕ → List Cell
faces_from d s ws p a = entries_from a (drop p (entries_of d s ws))

pub record AtFace (d s : ℕ) (ws : List ℕ) (p a : ℕ) : Type 0 where
  pub cell : p ≤ s
  pub position : p < s → a ≤ d
  pub found : p < s → on_boundary d ws p a ≡ true
  pub ended : s ≤ p → a ≡ 0

pub record NextPosition (d s : ℕ) (ws : List ℕ) (p a b : ℕ) : Type 0 where
  pub same : faces_from d s ws p a ≡ faces_from d s ws p b
  pub found : b ≤ d → on_boundary d ws p b ≡ true

abbrev pub Between : ℕ → ℕ → List ℕ → ℕ → ℕ → ℕ → Bool → Type 0
Between d s ws p q b true = length (faces_from d s ws q b) < length (faces_from d s ws p 0)
Between d s ws p q b false = faces_from d s ws p 0 ≡ faces_from d s ws q b

pub record NextCell (d s : ℕ) (ws : List ℕ) (p q : ℕ) : Type 0 where
  pub cell : q ≤ s
  pub same : faces_from d s ws p 0 ≡ faces_from d s ws q 0
  pub found : q < s → Between d s ws q (q + 1) 0 true

pub record NextFace (d s : ℕ) (ws : List ℕ) (p a q b : ℕ) : Type 0 where
  pub place : AtFace d s ws q b
  pub same : faces_from d s ws p a ≡ faces_from d s ws q b
