-- The keys of the bucket that were passed have other hashes. Assumes nothing.
use mathlib.Core.Path.{◌≡◌}
use mathlib.Core.List.{List}
use Prim.Native.Nat.{ℕ}
use lib.ListN.{get_or}
use Rattle.soundness.specs.Inner.Hashing.{Chain, bucket_at}
use Rattle.soundness.proofs.Chaining.{Past}
use Rattle.soundness.proofs.buckets.find.Given as goal

-- key j has another hash than key g
abbrev pub Other : List ℕ → ℕ → ℕ → Type 0
Other hash g j = get_or hash j 0 ≡ get_or hash g 0 → ⊥

abbrev pub invariant-loop : goal.invariant-loop
invariant-loop l =
    (c : Chain l.buckets l.hash l.next l.g l.first) → Past c.bk (Other l.hash l.g) (bucket_at l.buckets l.hash l.g) l.g l.f
