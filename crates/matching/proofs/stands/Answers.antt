-- Where a vertex stands among those left.
use borrow.Author.Tests.{lt-ltb, le-ltb}
use Rattle.matching.proofs.stands.Goals as goal

pub returns-then-j-a : goal.returns-then-j-a
returns-then-j-a c = rw (lt-ltb _ _ c.if-j-a.true)

pub returns-else-j-a : goal.returns-else-j-a
returns-else-j-a c = rw (le-ltb _ _ c.if-j-a.false)
