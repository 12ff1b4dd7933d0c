-- `Turn::on_circle` answers `on_circle`. Assumes nothing.
use Rattle.points.specs.Step.{on_circle}
use Rattle.points.proofs.step.Turn.on_circle.Goals as goal

pub returns-then-q : goal.returns-then-q
unfolding on_circle
returns-then-q c = simp c.if-q.true

pub returns : goal.returns
unfolding on_circle
returns c = simp c.if-q.false
