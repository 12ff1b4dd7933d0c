-- The room's arrays are long enough. Assumes nothing.
use Rattle.winged.proofs.Inward.{room_arrays}
use Rattle.winged.proofs.host.rooms.in_room.Goals as goal

pub sweep_bytes-requires : goal.sweep_bytes-requires
sweep_bytes-requires g c = room_arrays c.requires.0
