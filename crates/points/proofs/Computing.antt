-- One name that opens what is said of points and steps, so that an example is proved by computing both sides.
use lib.Ieee.{add, sub, mul, neg, eq, lt, le, of_bits}
use Rattle.points.specs.Step.{in_range, on_circle, step_fits, add_at, turned, moved_point}
use Rattle.points.specs.Carrying.{carried, carries}

unfoldable pub computing : Unit {0}
unfolding add sub mul neg eq lt le of_bits in_range on_circle step_fits add_at turned moved_point carried carries
computing = tt
