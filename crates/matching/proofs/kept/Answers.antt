-- How many vertices are left.
use borrow.Author.Tests.{lt-ltb, le-ltb}
use Rattle.matching.proofs.kept.Goals as goal

pub returns-then-a-k : goal.returns-then-a-k
returns-then-a-k c = rw (lt-ltb _ _ c.if-a-k.true)

pub returns-else-a-k : goal.returns-else-a-k
returns-else-a-k c = rw (le-ltb _ _ c.if-a-k.false)
