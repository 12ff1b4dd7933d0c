-- The loop's invariant: no row falls at the vertices passed. Assumes nothing.
use mathlib.Core.Bool.{false}
use mathlib.Core.Path.{◌≡◌}
use Prim.Native.Nat.{ℕ, ◌<◌}
use Rattle.words.specs.Records.{any_below}
use Rattle.tables.specs.Inner.Held.{falls_at}
use Rattle.tables.proofs.gather.any_falls.Given as goal

abbrev pub invariant-loop-j : goal.invariant-loop-j
invariant-loop-j l = (i : ℕ) → i < l.j → any_below l.s (λ p. falls_at l.rows p i) ≡ false
