-- Positions that are not on the boundary are passed. Assumes nothing.
use mathlib.Core.Path.{◌≡◌}
use Rattle.boundary.specs.Inner.Walk.{faces_from}
use Rattle.boundary.proofs.walk.next_position.Given as goal

abbrev pub invariant-loop-position : goal.invariant-loop-position
invariant-loop-position l = faces_from l.d l.s l.table l.p l.a ≡ faces_from l.d l.s l.table l.p l.position
