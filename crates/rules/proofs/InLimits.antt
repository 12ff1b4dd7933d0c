-- What numbers within the limits are, from the test of row 2 where it does not apply.
--   Limits, limits_are              a shape's: the dimension at most top, the vertices, the cells
--   SweepLimits, sweep_limits_are   a sweep's: a shape's of dimension 6, with the steps
--   ListLimits, list_limits_are     a list's: a shape's of dimension 7, with the axes; row 2 tests the version too
--   MoveLimits, move_limits_are     a move's: axes, vertices, steps
--   no_shape                        cells without vertices are of no shape
--   sizes_follow                    sizes that have a vertex where others within the limits have, and no cells where those have none
-- Assumes nothing.
use mathlib.Core.Path.{◌≡◌, refl, subst}
use mathlib.Core.Bool.{true, false, not, ◌&&◌, ◌||◌, and-false, or-true}
use Prim.Native.Nat.{ℕ, zero, suc, ◌≤◌}
use lib.Dec.{eqb, leb, eqb-suc-zero}
use borrow.Author.Tests.{leb-true, le-leb, not-false}
use Rattle.rules.specs.Limits.{max_dimension, max_source, max_axes, max_vertices, max_cells, max_steps, within}
use Rattle.rules.specs.Limits.{axes_ok, vertices_ok, cells_ok, sizes_ok, steps_ok, version_ok}
use Rattle.rules.specs.Shapes.{shape_ok}
use Rattle.rules.proofs.Tests.{and_parts}

at_most : (hi x : ℕ) → within 1 hi x ≡ true → x ≤ hi
at_most hi x e = leb-true x hi (and_parts (leb 1 x) (leb x hi) e).1

pub record Limits (top d v s : ℕ) : Type 0 where
  pub dimension : d ≤ top
  pub vertices : v ≤ max_vertices
  pub cells : s ≤ max_cells

shape_limits : (top d v s : ℕ) → shape_ok top d v s ≡ true → Limits top d v s
shape_limits top d v s e =
    let shape = and_parts (leb d top) (sizes_ok v s) e in
    let counts = and_parts (vertices_ok v) (cells_ok s) (and_parts (vertices_ok v && cells_ok s) (eqb s 0 || leb 1 v) shape.1).0 in
    record { dimension = leb-true d top shape.0; vertices = leb-true v max_vertices counts.0; cells = leb-true s max_cells counts.1 }

pub limits_are : (top d v s : ℕ) → not (shape_ok top d v s) ≡ false → Limits top d v s
limits_are top d v s e = shape_limits top d v s (not-false (shape_ok top d v s) e)

pub record SweepLimits (d v s h : ℕ) : Type 0 where
  pub dimension : d ≤ max_source
  pub vertices : v ≤ max_vertices
  pub cells : s ≤ max_cells
  pub steps : h ≤ max_steps

pub sweep_limits_are : (d v s h : ℕ) → not (shape_ok max_source d v s && steps_ok h) ≡ false → SweepLimits d v s h
sweep_limits_are d v s h e =
    let both = and_parts (shape_ok max_source d v s) (steps_ok h) (not-false (shape_ok max_source d v s && steps_ok h) e) in
    let l = shape_limits max_source d v s both.0 in
    record { dimension = l.dimension; vertices = l.vertices; cells = l.cells; steps = at_most max_steps h both.1 }

pub record ListLimits (d n v s : ℕ) : Type 0 where
  pub dimension : d ≤ max_dimension
  pub axes : n ≤ max_axes
  pub vertices : v ≤ max_vertices
  pub cells : s ≤ max_cells

pub list_limits_are : (k d n v s : ℕ) → not (version_ok k && (shape_ok max_dimension d v s && axes_ok n)) ≡ false → ListLimits d n v s
list_limits_are k d n v s e =
    let numbers = shape_ok max_dimension d v s && axes_ok n in
    let both = and_parts (shape_ok max_dimension d v s) (axes_ok n) (and_parts (version_ok k) numbers (not-false (version_ok k && numbers) e)).1 in
    let l = shape_limits max_dimension d v s both.0 in
    record { dimension = l.dimension; axes = at_most max_axes n both.1; vertices = l.vertices; cells = l.cells }

pub record MoveLimits (n v h : ℕ) : Type 0 where
  pub axes : n ≤ max_axes
  pub vertices : v ≤ max_vertices
  pub steps : h ≤ max_steps

pub move_limits_are : (n v h : ℕ) → not (axes_ok n && (vertices_ok v && steps_ok h)) ≡ false → MoveLimits n v h
move_limits_are n v h e =
    let parts = and_parts (axes_ok n) (vertices_ok v && steps_ok h) (not-false (axes_ok n && (vertices_ok v && steps_ok h)) e) in
    let counts = and_parts (vertices_ok v) (steps_ok h) parts.1 in
    record { axes = at_most max_axes n parts.0; vertices = leb-true v max_vertices counts.0; steps = at_most max_steps h counts.1 }

pub no_shape : (top d s : ℕ) → shape_ok top d 0 (suc s) ≡ false
no_shape top d s = rw (eqb-suc-zero s, and-false (leb (suc s) max_cells)) (and-false (leb d top))

pub sizes_follow : (v s w t : ℕ) → sizes_ok v s ≡ true → w ≤ max_vertices → t ≤ max_cells →
    (1 ≤ v → 1 ≤ w) → (s ≡ 0 → t ≡ 0) → sizes_ok w t ≡ true
sizes_follow v s w t e few small some none =
    rw (le-leb w max_vertices few, le-leb t max_cells small) (go s (and_parts (vertices_ok v && cells_ok s) (eqb s 0 || leb 1 v) e).1 none)
  where
    go : (s : ℕ) → (eqb s 0 || leb 1 v) ≡ true → (s ≡ 0 → t ≡ 0) → (eqb t 0 || leb 1 w) ≡ true
    go zero e none = rw (none refl) refl
    go (suc s) e none = rw (le-leb 1 w (some (leb-true 1 v (subst (λ b. (b || leb 1 v) ≡ true) (eqb-suc-zero s) e)))) (or-true (eqb t 0))
