-- The hashes, and then the keys one after the other. Assumes nothing.
use native.Mathlib.Omega.{arith}
use Rattle.soundness.proofs.Chaining.{chains-none}
use Rattle.soundness.proofs.Passing.{pass_hashed}
use Rattle.soundness.proofs.Telling.{rows_up, told}
use Rattle.soundness.proofs.rooms.in_arrays.Goals as goal

pub hashes-requires : goal.hashes-requires
hashes-requires c = (c.requires.1, c.requires.0, c.requires.4.hash_room)

pub all_right-requires : goal.all_right-requires
all_right-requires c =
    let a = c.args in
    let lent = c.requires.4 in
    pass_hashed a.d a.s a.table.now _ a.head.now a.next.now c.requires.0
    (rows_up a.d a.v a.s a.table.now c.requires.0 c.requires.3)
    (omega (arith, lent.hash_room, c.hashes.ensures.long)) lent.next_room c.hashes.ensures.hashed
    (chains-none _ a.head.now a.next.now lent.some lent.few lent.blank)

pub returns : goal.returns
returns c = λ e.
    let a = c.args in
    told a.d a.v a.s a.table.now c.requires.0 c.requires.3 c.requires.1 c.requires.2 (c.all_right.ensures.right e)
