-- The weights of the vertices passed, and their sum. Assumes nothing.
use mathlib.Core.Path.{◌≡◌}
use Prim.Native.Nat.{ℕ, ◌*◌, ◌≤◌, ◌<◌}
use lib.ListN.{take, length, get_or}
use Rattle.records.specs.Inner.Inside.{vertex_in}
use Rattle.soundness.specs.Inner.Certified.{row_in}
use Rattle.soundness.specs.Inner.Hashing.{term, weight}
use Rattle.soundness.proofs.hashing.terms.Given as goal

abbrev pub invariant-loop-j : goal.invariant-loop-j
invariant-loop-j l =
    (length l.each ≡ 8) × ((i : ℕ) → i < l.j → get_or l.each i 0 ≡ term (vertex_in l.d l.table l.p i))
    × (l.sum ≡ weight (take l.j (row_in l.d l.table l.p))) × (l.sum ≤ l.j * 1152921504606846976)
