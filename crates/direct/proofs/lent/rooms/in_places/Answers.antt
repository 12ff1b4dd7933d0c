-- The room's arrays are long enough, and none is too long for memory. Assumes nothing.
use native.Mathlib.Omega.{arith}
use Rattle.direct.proofs.Room.{room_for}
use Rattle.direct.proofs.lent.rooms.in_places.Goals as goal

pub whole_as_slice-in_arrays : goal.whole_as_slice-in_arrays
whole_as_slice-in_arrays g c = omega (arith, c.requires.room)

pub whole_as_slice-in_arrays-2 : goal.whole_as_slice-in_arrays-2
whole_as_slice-in_arrays-2 g c = omega (arith, c.requires.room)

pub in_arrays-requires : goal.in_arrays-requires
in_arrays-requires g c =
    let (list, words, _, some, most) = c.requires.room in
    let r = room_for _ _ _ _ _ _ _ _ _ _ c.requires.lent (list, words, some, most) in
    record { lent = r.0; s_in_bounds = r.1 }
