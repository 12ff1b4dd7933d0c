-- `seen` answers `seen_at`. Assumes nothing.
use mathlib.Core.Path.{ap}
use Prim.Native.Nat.{ℕ}
use lib.Dec.{ltb}
use Rattle.tables.proofs.adjacency.seen.Goals as goal

pub returns : goal.returns
returns c = ap (λ (x : ℕ). ltb x c.args.n) c.from.ensures
