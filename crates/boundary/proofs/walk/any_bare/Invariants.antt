-- The positions passed are told. Assumes nothing.
use Rattle.boundary.specs.Inner.Walk.{Between}
use Rattle.boundary.proofs.walk.any_bare.Given as goal

abbrev pub invariant-loop-a : goal.invariant-loop-a
invariant-loop-a l = Between l.d l.s l.table l.p l.p l.a l.bare
