-- The third term, stated over the definitions that the contracts of wing, sweep and faces cite. Paper, section 1.
--   Sitting               a list of s cells as words, and the buffers lent to wing (two) and to sweep
--   Unrefused d v h x     wing accepts the list, and sweep accepts the table that wing writes, in h steps
--   solid                 the accepted cells, in ascending order
--   table_written          what wing writes
--   swept_written          what sweep writes from it
--   boundary              the boundary of the swept table: the faces at its empty wings
--   ThirdTerm d v h x y   the four sentences about two solids of dimension d on v vertices, swept in h steps
use Rattle.std.specs.Prelude.{◌≡◌, ◌↔◌, cond, List, ℕ, suc, ◌*◌, ◌≤◌, ℤ, ◌+ℤ◌, ◌-ℤ◌, neg_ℤ, length, take}
use Rattle.rules.specs.Limits.{swept_vertices}
use Rattle.rules.specs.Calls.{accepted, written}
use Rattle.simplex.specs.Cell.{Row, Cell, alternating}
use Rattle.simplex.specs.Chain.{total, Same, coefficient}
use Rattle.records.specs.Layout.{face_size, faces_of, faces_words, entries_of, table_length}
use Rattle.solids.specs.Accept.{Listed, solid_of}
use Rattle.wing.specs.Wing.{WingInput, wing_outcome, wing_buffer}
use Rattle.prism.specs.Cells.{sweep_of, top_copy}
use Rattle.prism.specs.Swept.{swept_cells}
use Rattle.sweep.specs.Sweep.{SweepInput, swept_length, sweep_outcome, sweep_buffer}
use Rattle.boundary.specs.Boundary.{boundary_of, own_boundary}
use Rattle.boundary.specs.Faces.{FacesInput, faces_outcome, faces_buffer}

pub record Sitting : Type 0 where
  pub s : ℕ
  pub cells : List ℕ
  pub table_buffer : List ℕ
  pub uploaded_buffer : List ℕ
  pub swept_buffer : List ℕ

module _ (d v h : ℕ) (x : Sitting) where
  abbrev pub list : Listed
  list = record { d = d; v = v; s = x.s; words = x.cells }

  abbrev pub solid : List Cell
  solid = solid_of list

  abbrev pub to_wing : WingInput
  to_wing = record { list = list; room = length x.table_buffer; uploaded_room = length x.uploaded_buffer }

  -- the front of the buffer after wing
  abbrev pub table_written : List ℕ
  table_written = take (table_length d x.s) (wing_buffer to_wing x.table_buffer)

  abbrev pub to_sweep : SweepInput
  to_sweep = record { d = d; v = v; s = x.s; h = h; table = table_written; room = length x.swept_buffer }

  -- the front of the buffer after sweep
  abbrev pub swept_written : List ℕ
  swept_written = take (swept_length to_sweep) (sweep_buffer to_sweep x.swept_buffer)

  pub record Unrefused : Type 0 where
    pub winged : wing_outcome to_wing ≡ accepted (table_length d x.s)
    pub swept : sweep_outcome to_sweep ≡ accepted (swept_length to_sweep)

  abbrev pub boundary : List Cell
  boundary = boundary_of (entries_of (suc d) (swept_cells d x.s h) swept_written)

  abbrev pub boundary_words : List ℕ
  boundary_words = faces_words boundary

  abbrev pub to_faces : List ℕ → FacesInput
  to_faces out = record { d = suc d; v = swept_vertices v h; s = swept_cells d x.s h; table = swept_written; room = length out }

  -- (-1)^d z
  abbrev pub signed : ℤ → ℤ
  signed z = cond (alternating d) z (neg_ℤ z)

  pub record BoundaryOf : Type 0 where
    -- faces, lent room enough, answers the count of these faces and writes them
    pub answered : (out : List ℕ) → length boundary * face_size (suc d) ≤ length out →
        faces_outcome (to_faces out) ≡ accepted (length boundary)
    pub written : (out : List ℕ) → length boundary * face_size (suc d) ≤ length out →
        faces_buffer (to_faces out) out ≡ written boundary_words out
    -- its records, read as signed cells with their materials, are the boundary
    pub read : faces_of (suc d) (length boundary) boundary_words ≡ boundary
    -- no two of its faces are on the same vertices
    pub distinct : (w : Row) → total w boundary ≤ 1
    -- as a sum, materials left out, it is (-1)^d (top copy - solid) + sweep of the solid's own boundary
    pub sum : (w : Row) →
        coefficient w boundary ≡ signed (coefficient w (top_copy v h solid) -ℤ coefficient w solid)
        +ℤ coefficient w (sweep_of v h (own_boundary solid))

pub record ThirdTerm (d v h : ℕ) (x y : Sitting) : Type 0 where
  pub decides : Same (solid d v h x) (solid d v h y) ↔ Same (boundary d v h x) (boundary d v h y)
  pub first : BoundaryOf d v h x
  pub second : BoundaryOf d v h y
