-- The room's arrays are long enough. Assumes nothing.
use native.Mathlib.Omega.{arith}
use Rattle.soundness.proofs.Places.{arrays_made}
use Rattle.soundness.proofs.rooms.in_32768.Goals as goal

pub in_arrays-requires : goal.in_arrays-requires
in_arrays-requires c =
    let fine = c.all_fine.ensures c.if-not-all_fine.false in
    (c.requires.0, c.requires.1, c.requires.3, fine, arrays_made _ 32768 49152 c.requires.2 (omega arith) (omega arith))
