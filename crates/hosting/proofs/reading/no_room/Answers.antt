-- `no_room` tests three lengths. Assumes nothing.
use mathlib.Core.Path.{refl, sym}
use borrow.Author.Tests.{lt-ltb, le-ltb}
use Rattle.hosting.proofs.reading.no_room.Goals as goal

pub returns-then-header-lt-TOLD_SIZE : goal.returns-then-header-lt-TOLD_SIZE
returns-then-header-lt-TOLD_SIZE c = rw (lt-ltb _ _ c.if-header-lt-TOLD_SIZE.true) refl

pub returns-then-cells-words : goal.returns-then-cells-words
returns-then-cells-words c = rw (le-ltb _ _ c.if-header-lt-TOLD_SIZE.false, sym c.words.ensures, lt-ltb _ _ c.if-cells-words.true) refl

pub returns : goal.returns
returns c = rw (
  le-ltb _ _ c.if-header-lt-TOLD_SIZE.false,
  sym c.words.ensures,
  le-ltb _ _ c.if-cells-words.false,
  sym c.point_count.ensures.0,
) refl
