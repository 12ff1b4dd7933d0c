-- The rooms of the arrays that hold what is decoded, and row 15 behind a call that had room enough.
--   table_room, word_room       words of the largest table, and of the largest list that is read
--   float_room, moved_room      floats of the most points, and of the most that can be moved: a step doubles them
--   in_room room o             the outcome, but row 15 where the count is over the room
use Rattle.std.specs.Prelude.{cond, ℕ, ◌*◌, ◌/◌, ltb}
use Rattle.rules.specs.Calls.{Outcome, accepted, refused}
use Rattle.rules.specs.Limits.{max_dimension, max_source, max_axes, max_vertices, max_cells}
use Rattle.records.specs.Layout.{list_length, table_length}

abbrev pub table_room : ℕ
table_room = table_length max_dimension max_cells

abbrev pub word_room : ℕ
word_room = list_length max_source max_cells

abbrev pub float_room : ℕ
float_room = max_vertices * max_axes

abbrev pub moved_room : ℕ
moved_room = float_room / 2

abbrev pub in_room : ℕ → Outcome ℕ → Outcome ℕ
in_room room (accepted n) = cond (ltb room n) (refused 15) (accepted n)
in_room room (refused n) = refused n
