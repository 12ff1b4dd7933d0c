-- What move answers on bytes, computed.
use mathlib.Core.Path.{◌≡◌, refl}
use Prim.Native.Nat.{ℕ}
use lib.ListN.{replicate}
use Rattle.rules.specs.Calls.{Outcome, refused}
use Rattle.points.proofs.Computing.{computing}
use Rattle.motion.specs.Move.{moved_levels}
use Rattle.hosting.specs.Floats.{floats64}
use Rattle.hosting.specs.Moves.{move_told, host_move_rules, host_move_outcome}

-- a point at 0 slid once, by 0, on its one axis, with a second float of b, and with so many bytes of points
abbrev slid : ℕ → ℕ → Outcome ℕ
slid b bytes = host_move_outcome (move_told 1 1 1 (record { kind = 1; axis = 0; other = 0; a = 0; b = b; c = 0 }) (replicate bytes 0) 0)

pub unused_float : slid 1 8 ≡ refused 5
unfolding computing floats64 moved_levels host_move_rules host_move_outcome
unused_float = refl

-- an axis of amount 0 carries nothing
pub not_carried : slid 0 8 ≡ refused 17
unfolding computing floats64 moved_levels host_move_rules host_move_outcome
not_carried = refl

pub odd_points : slid 0 9 ≡ refused 3
unfolding computing floats64 moved_levels host_move_rules host_move_outcome
odd_points = refl
