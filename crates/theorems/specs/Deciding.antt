-- The third term's `decides` on pairs of small solids (third_term, Pairs), and sentences of its shape that are false.
--   ring x                the solid of a sitting of segments on three vertices
--   swept_ring h x         the boundary of its sweep in h steps
--   Equal x y             two such solids are equal, list order aside
use Rattle.std.specs.Prelude.{◌≡◌, ◌↔◌, List, ℕ, length}
use Rattle.simplex.specs.Cell.{Row, Sign, Cell}
use Rattle.simplex.specs.Chain.{count_on, total, Same}
use Rattle.boundary.specs.Boundary.{own_boundary}
use Rattle.third_term.specs.ThirdTerm.{Sitting, Unrefused, solid, boundary}
use Rattle.third_term.specs.Pairs.{circle, reversed, inlaid, points, exchanged}

abbrev pub ring : Sitting → List Cell
ring x = solid 1 3 1 x

abbrev pub swept_ring : ℕ → Sitting → List Cell
swept_ring h x = boundary 1 3 h x

abbrev pub Equal : Sitting → Sitting → Type 0
Equal x y = Same (ring x) (ring y)

pub record Deciding : Type 0 where
  -- wing and sweep refuse none of them, so the third term speaks of them
  pub unrefused : Unrefused 1 3 1 circle × Unrefused 1 3 1 reversed × Unrefused 1 3 2 circle × Unrefused 0 2 1 points × Unrefused 0 2 1 exchanged
      × Unrefused 1 3 1 inlaid
  -- different solids, different boundaries of their sweeps; equal solids, equal boundaries
  pub different : (Equal circle reversed → ⊥) × (Same (swept_ring 1 circle) (swept_ring 1 reversed) → ⊥)
  -- and so it is with solids that differ in a material alone
  pub materials : (Equal circle inlaid → ⊥) × (Same (swept_ring 1 circle) (swept_ring 1 inlaid) → ⊥)
  pub equal : Same (solid 0 2 1 points) (solid 0 2 1 exchanged) × Same (boundary 0 2 1 points) (boundary 0 2 1 exchanged)
  -- false: told by the solids' own boundaries, which are empty
  pub own : (Equal circle reversed ↔ Same (own_boundary (ring circle)) (own_boundary (ring reversed))) → ⊥
  -- false: told by the vertices of the faces, signs aside
  pub signs : (Equal circle reversed ↔ ((w : Row) → total w (swept_ring 1 circle) ≡ total w (swept_ring 1 reversed))) → ⊥
  -- false: told by the signed faces, materials aside
  pub materials_aside : (Equal circle inlaid ↔ ((s : Sign) (w : Row) → count_on s w (swept_ring 1 circle) ≡ count_on s w (swept_ring 1 inlaid))) → ⊥
  -- false: told of solids by their vertices, signs aside
  pub solid-signs : (((w : Row) → total w (ring circle) ≡ total w (ring reversed)) ↔ Same (swept_ring 1 circle) (swept_ring 1 reversed)) → ⊥
  -- false: told by the count of faces
  pub count : (Equal circle reversed ↔ (length (swept_ring 1 circle) ≡ length (swept_ring 1 reversed))) → ⊥
  -- false: told by sweeps in different steps
  pub steps : (Equal circle circle ↔ Same (swept_ring 1 circle) (swept_ring 2 circle)) → ⊥
  -- false: told by one boundary alone
  pub twice : (Equal circle reversed ↔ Same (swept_ring 1 circle) (swept_ring 1 circle)) → ⊥
  -- false: told with the order of the list
  pub order : ((solid 0 2 1 points ≡ solid 0 2 1 exchanged) ↔ Same (boundary 0 2 1 points) (boundary 0 2 1 exchanged)) → ⊥
