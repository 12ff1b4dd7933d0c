-- A face is on the boundary if its wing is empty; in dimension 0 none is. Assumes nothing.
use native.Mathlib.Omega.{arith}
use borrow.Author.Tests.{lt-ltb}
use Rattle.boundary.proofs.walk.on_boundary.Goals as goal

pub returns-then-d-eq0 : goal.returns-then-d-eq0
returns-then-d-eq0 c = rw c.if-d-eq0.true

pub returns : goal.returns
returns c = rw (c.wing.ensures, lt-ltb 0 c.args.d (omega arith))
