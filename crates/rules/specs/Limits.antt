-- The limits on the numbers that a call is told. Paper, section 9.
--   max_dimension      d of a table; read and sweep go to max_source, since a sweep adds one
--   max_axes, max_vertices, max_cells, max_steps, max_material, max_version
--   axes_ok, vertices_ok, cells_ok, steps_ok, version_ok      one number is within its limits
--   with_materials k   whether files and keys of version k have materials
--   sizes_ok v s       vertex and cell count are; a solid may be without cells, and only then without vertices
--   swept_vertices     the vertex count of a sweep: v vertices give (h + 1) v in h steps
use Rattle.std.specs.Prelude.{Bool, ◌&&◌, ◌||◌, ℕ, suc, ◌*◌, eqb, leb}

abbrev pub max_dimension : ℕ
max_dimension = 7

abbrev pub max_source : ℕ
max_source = 6

abbrev pub max_axes : ℕ
max_axes = 8

abbrev pub max_vertices : ℕ
max_vertices = 4096

abbrev pub max_cells : ℕ
max_cells = 4096

abbrev pub max_steps : ℕ
max_steps = 64

abbrev pub max_material : ℕ
max_material = 999

-- of a file and of a key
abbrev pub max_version : ℕ
max_version = 2

-- lo ≤ x ≤ hi
abbrev pub within : ℕ → ℕ → ℕ → Bool
within lo hi x = leb lo x && leb x hi

abbrev pub vertices_ok : ℕ → Bool
vertices_ok v = leb v max_vertices

abbrev pub cells_ok : ℕ → Bool
cells_ok s = leb s max_cells

abbrev pub sizes_ok : ℕ → ℕ → Bool
sizes_ok v s = (vertices_ok v && cells_ok s) && (eqb s 0 || leb 1 v)

abbrev pub axes_ok : ℕ → Bool
axes_ok n = within 1 max_axes n

abbrev pub steps_ok : ℕ → Bool
steps_ok h = within 1 max_steps h

abbrev pub version_ok : ℕ → Bool
version_ok k = within 1 max_version k

abbrev pub with_materials : ℕ → Bool
with_materials k = eqb k 2

abbrev pub swept_vertices : ℕ → ℕ → ℕ
swept_vertices v h = suc h * v
