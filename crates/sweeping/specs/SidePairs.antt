-- What side_pair answers.
--   has_side d a l         a solid of dimension d can be swept, and has a side at place l over face a
--   side_pair_of d a l      that side's pair; cell 0 at position 0 where there is none
use Rattle.std.specs.Prelude.{ℕ, Bool, cond, ◌&&◌, nat_le, nat_lt}
use Rattle.rules.specs.Limits.{max_source}
use Rattle.prism.specs.Sides.{Side, side, side_pair}
use Rattle.sweeping.specs.declared.sides.SidePair.{SidePair}

abbrev pub has_side : ℕ → ℕ → ℕ → Bool
has_side d a l = nat_le d max_source && (nat_le a d && nat_lt l d)

abbrev pub declared_pair : Side → SidePair
declared_pair x = record { cell = x.cell; position = x.position }

unfoldable pub side_pair_of : ℕ → ℕ → ℕ → SidePair
side_pair_of d a l = declared_pair (cond (has_side d a l) (side_pair d a l) (side 0 0))
