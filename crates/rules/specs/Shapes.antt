-- The shape of a table: its dimension d, vertex count v and cell count s. Paper, section 9.
--   shape_ok top d v s     d is at most top, and the counts are within the limits
--   shape_of top d v s     the shape, or none where it is outside
use Rattle.std.specs.Prelude.{Bool, true, false, ◌&&◌, Option, None, Some, ℕ, leb}
use Rattle.rules.specs.Limits.{sizes_ok}
use Rattle.rules.specs.declared.limits.Shape.{Shape}

abbrev pub shape_ok : ℕ → ℕ → ℕ → ℕ → Bool
shape_ok top d v s = leb d top && sizes_ok v s

abbrev pub pick_shape : Bool → Option Shape → Option Shape
pick_shape true x = x
pick_shape false x = None

unfoldable pub shape_of : ℕ → ℕ → ℕ → ℕ → Option Shape
shape_of top d v s = pick_shape (shape_ok top d v s) (Some (record { d = d; v = v; s = s }))
