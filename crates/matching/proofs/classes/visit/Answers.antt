-- The two cases of a key that is visited.
use mathlib.Core.Path.{refl}
use native.Mathlib.Omega.{arith}
use borrow.Author.Tests.{lt-ltb, le-ltb}
use Rattle.matching.proofs.classes.visit.Goals as goal

pub returns-then-v-marked : goal.returns-then-v-marked
returns-then-v-marked c = rw (lt-ltb _ _ c.if-v-marked.true) (refl, refl)

pub overflow_cast-class-2 : goal.overflow_cast-class-2
overflow_cast-class-2 c = omega (arith, c.requires.x_bound c.if-v-marked.false)

pub returns : goal.returns
returns c = rw (le-ltb _ _ c.if-v-marked.false) (refl, refl)
