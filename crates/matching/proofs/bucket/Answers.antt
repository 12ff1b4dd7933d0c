-- The bucket of a key by the weight of its row and of the vertex that it lacks. Assumes nothing.
use mathlib.Core.Path.{refl}
use native.Mathlib.Nat.{mod-lt, lt_trans}
use lib.Dec.{lit<}
use borrow.Author.Tests.{lt-ltb, le-ltb}
use Rattle.matching.proofs.bucket.Goals as goal

pub overflow_sub-result : goal.overflow_sub-result
overflow_sub-result c = c.requires.1 c.if-a-k.true

pub returns-then-a-k : goal.returns-then-a-k
returns-then-a-k c = (rw (lt-ltb _ _ c.if-a-k.true) refl, lt_trans (mod-lt _ (lit< tt)) (lit< tt))

pub returns-else-a-k : goal.returns-else-a-k
returns-else-a-k c = (rw (le-ltb _ _ c.if-a-k.false) refl, lt_trans (mod-lt _ (lit< tt)) (lit< tt))
