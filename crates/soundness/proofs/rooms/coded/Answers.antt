-- The room's arrays are long enough. Assumes nothing.
use Rattle.soundness.proofs.Places.{arrays_made, rooms-made}
use Rattle.soundness.proofs.rooms.coded.Goals as goal

pub in_codes-requires : goal.in_codes-requires
in_codes-requires g c =
    let k = (c.requires) in
    let r = rooms-made _ g.row.PLACES g.row.KNOWN k.2 k.5 in
    (k.0, k.1, k.3, k.4, r, arrays_made _ g.row.PLACES g.row.BUCKETS k.2 k.7 k.8)
