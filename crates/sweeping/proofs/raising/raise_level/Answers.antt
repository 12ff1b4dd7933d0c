-- Raised from the two levels below, and joined. Assumes nothing.
use Rattle.std.proofs.Common.{◌+◌, ◌*◌, arith}
use Rattle.sweeping.proofs.RaisedLevel.{raised_level}
use Rattle.sweeping.proofs.SweptWords.{level-long}
use Rattle.sweeping.proofs.raising.raise_level.Goals as goal

pub join-requires : goal.join-requires
join-requires c =
    let a = c.args in
    record {
      ready = c.requires.ready;
      at = c.requires.at.0;
      room = omega (
        arith,
        c.requires.room,
        c.requires.at.1,
        c.raise.ensures.outside.same,
        level-long a.d a.v a.s a.h a.table.now c.requires.ready.long (a.i + 2),
      );
    }

pub returns : goal.returns
returns c =
    let a = c.args in
    raised_level a.d a.v a.s a.h a.table.now c.requires.ready a.i a.n (a.i * a.n) c.requires.at.0 c.requires.at.1
    a.out.now _ _ c.requires.room c.requires.below.0 c.requires.below.1 c.raise.ensures c.join.ensures.kept c.join.ensures.below c.join.ensures.above
