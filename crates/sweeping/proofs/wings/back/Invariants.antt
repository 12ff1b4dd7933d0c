-- The search for the position back. The loop has found the first such position from b on. Assumes nothing.
use Rattle.std.proofs.Common.{◌≡◌}
use Rattle.sweeping.specs.Inner.SweptWords.{solid_wing}
use Rattle.sweeping.proofs.Searching.{back_after}
use Rattle.sweeping.proofs.wings.back.Given as goal

abbrev pub invariant-loop-b : goal.invariant-loop-b
invariant-loop-b l = l.found ≡ back_after (solid_wing l.d l.s l.table) l.p l.q l.d l.b
