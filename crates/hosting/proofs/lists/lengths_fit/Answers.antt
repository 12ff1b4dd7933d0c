-- `lengths_fit` answers row 3, by the two lengths. Assumes nothing.
use Prim.Native.Nat.{◌*◌, ◌≤◌}
use native.Mathlib.Nat.{mul-le-mul}
use native.Mathlib.Omega.{arith}
use Rattle.rules.specs.Limits.{max_dimension}
use Rattle.records.specs.Layout.{record_size, table_length}
use Rattle.hosting.specs.Inner.Rooms.{table_room, float_room}
use Rattle.hosting.proofs.lists.lengths_fit.Goals as goal
use Rattle.hosting.proofs.lists.lengths_fit.Goals.{Start}

-- the largest table and the most floats
words : (s : Start) → table_length s.args.d s.args.s ≤ table_room
words s = mul-le-mul {m₁ = record_size s.args.d} {m₂ = record_size max_dimension} s.requires.3 (omega arith)

floats : (s : Start) → s.args.v * s.args.n ≤ float_room
floats s = mul-le-mul s.requires.2 s.requires.1

pub overflow_mul-table_words : goal.overflow_mul-table_words
overflow_mul-table_words c = omega (arith, words (goal.at.overflow_mul-table_words c).Start)

pub overflow_mul-result : goal.overflow_mul-result
overflow_mul-result c = omega (arith, floats (goal.at.overflow_mul-result c).Start)

pub overflow_mul-result-then-table-table_words : goal.overflow_mul-result-then-table-table_words
overflow_mul-result-then-table-table_words c = omega (arith, floats (goal.at.overflow_mul-result-then-table-table_words c).Start)
