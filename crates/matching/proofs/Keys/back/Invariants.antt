-- The links are followed back to a key with the same row. The loop's invariant: the answer lies at f or before.
use Rattle.matching.specs.Inner.Matching.{key_row}
use Rattle.matching.proofs.Earlier.{Walk, rank}
use Rattle.matching.proofs.Keys.back.Given as goal

abbrev pub invariant-loop-f : goal.invariant-loop-f
invariant-loop-f l = Walk (key_row l.rows l.self.k l.self.w l.self.first) l.g l.f

abbrev pub decreases-loop-f : goal.decreases-loop-f
decreases-loop-f l = rank l.f
