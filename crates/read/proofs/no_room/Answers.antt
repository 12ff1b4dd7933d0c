-- `no_room` tests the cells' buffer and then the points'. Assumes nothing.
use mathlib.Core.Path.{refl, ap, ◌∙◌, sym}
use lib.Dec.{ltb}
use borrow.Author.Tests.{lt-ltb, le-ltb}
use Rattle.read.proofs.no_room.Goals as goal

pub returns-then-room-words : goal.returns-then-room-words
returns-then-room-words c = rw (ap (ltb _) (sym c.words.ensures) ∙ lt-ltb _ _ c.if-room-words.true) refl

pub returns : goal.returns
returns c =
    rw (ap (ltb _) (sym c.words.ensures) ∙ le-ltb _ _ c.if-room-words.false) (ap (ltb _) c.point_count.ensures.0)
