-- Each return is a part of the test. Assumes nothing.
use mathlib.Core.Path.{refl}
use borrow.Author.Tests.{le-ltb, lt-ltb}
use Rattle.winged.proofs.sending.is_small.Goals as goal

pub returns-then-d-gt-MAX_DIMENSION : goal.returns-then-d-gt-MAX_DIMENSION
returns-then-d-gt-MAX_DIMENSION c = rw (lt-ltb _ _ c.if-d-gt-MAX_DIMENSION.true) refl

pub returns-then-s-gt-MAX_CELLS : goal.returns-then-s-gt-MAX_CELLS
returns-then-s-gt-MAX_CELLS c = rw (le-ltb _ _ c.if-d-gt-MAX_DIMENSION.false, lt-ltb _ _ c.if-s-gt-MAX_CELLS.true) refl

pub returns : goal.returns
returns c = rw (le-ltb _ _ c.if-d-gt-MAX_DIMENSION.false, le-ltb _ _ c.if-s-gt-MAX_CELLS.false, c.table_words.ensures) refl
