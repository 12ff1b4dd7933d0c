-- The loop has paired the keys below g. Assumes nothing.
use mathlib.Core.Path.{◌≡◌}
use Prim.Native.Nat.{◌+◌, ◌*◌, ◌/◌, ◌<◌}
use Rattle.tables.specs.Inner.Pairing.{Pairing}
use Rattle.tables.proofs.adjacency.pair.Given as goal

abbrev pub invariant-loop-g : goal.invariant-loop-g
invariant-loop-g l =
    (l.part ≡ 1048576 / l.k + 1) × (l.here.at < l.k) × (l.g ≡ l.here.cell * l.k + l.here.at)
    × Pairing l.k l.n l.rows l.signs l.prev l.g l.initial.wings l.wings l.found.crowded l.found.repeated l.found.equal
