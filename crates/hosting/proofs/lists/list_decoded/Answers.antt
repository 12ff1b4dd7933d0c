-- `list_decoded` lends list what it decoded. Assumes nothing.
use mathlib.Core.Path.{sym}
use Prim.Native.Nat.{◌/◌, ◌≤◌}
use native.Mathlib.Omega.{arith}
use lib.ListN.{length}
use lib.Seq.{length-take-le}
use Rattle.hosting.specs.Inner.Rooms.{table_room, float_room}
use Rattle.hosting.proofs.FloatLaws.{words_front, floats_front}
use Rattle.hosting.proofs.ListRows.{list_decodes}
use Rattle.hosting.proofs.lists.list_decoded.Goals as goal
use Rattle.hosting.proofs.lists.list_decoded.Goals.{Start}

-- what is decoded fits its array
words-fit : (s : Start) → length s.args.table.now / 2 ≤ table_room
words-fit s = omega (arith, s.requires.0)

floats-fit : (s : Start) → length s.args.points.now / 8 ≤ float_room
floats-fit s = omega (arith, s.requires.1)

pub decode-requires-2 : goal.decode-requires-2
decode-requires-2 c = (c.requires.2, omega (arith, floats-fit (goal.at.decode-requires-2 c).Start))

pub slice_bounds-list-end : goal.slice_bounds-list-end
slice_bounds-list-end c = sym (length-take-le _ _ (omega (arith, words-fit (goal.at.slice_bounds-list-end c).Start)))

pub slice_bounds-list-end-2 : goal.slice_bounds-list-end-2
slice_bounds-list-end-2 c = sym (length-take-le _ _ (omega (arith, floats-fit (goal.at.slice_bounds-list-end-2 c).Start)))

pub returns : goal.returns
returns c =
    let a = c.args in
    let e = c.list.ensures in
    let both = list_decodes a.version a.d a.n a.v a.s a.table.now a.points.now a.text.now _ _ _ _ (e.answer, e.buffer)
    (words_front a.table.now _ _ c.decode.ensures) (floats_front a.points.now _ _ c.decode-2.ensures) in
    record { answer = both.0; buffer = both.1 }
