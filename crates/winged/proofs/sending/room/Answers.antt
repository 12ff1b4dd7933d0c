-- The lesser of the whole words and the largest table. Assumes nothing.
use mathlib.Core.Path.{refl}
use borrow.Author.Tests.{le-leb, lt-leb}
use Rattle.winged.proofs.sending.room.Goals as goal

pub returns-then-n-most : goal.returns-then-n-most
returns-then-n-most c = rw (le-leb _ _ c.if-n-most.true) refl

pub returns : goal.returns
returns c = rw (lt-leb _ _ c.if-n-most.false) refl
