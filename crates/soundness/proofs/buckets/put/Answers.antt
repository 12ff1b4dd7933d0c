-- The keys in the bucket are looked at, and the key is chained or left out. Assumes nothing.
use mathlib.Core.Path.{refl}
use Prim.Native.Nat.{ℕ, ◌≤◌, ◌<◌}
use native.Mathlib.Decide.{dec_lt}
use native.Mathlib.Omega.{arith}
use lib.ListN.{length-set}
use Rattle.soundness.proofs.Chaining.{chain_of, chains_more, chains_skip}
use Rattle.soundness.proofs.buckets.put.Goals as goal

pub bucket-b-requires : goal.bucket-b-requires
bucket-b-requires c = (c.requires.0.some, c.requires.0.few)

pub find-f-requires : goal.find-f-requires
find-f-requires c =
    let a = c.args in
    let e = c.bucket-b.ensures in
    (chain_of a.hash.now a.head.now a.next.now a.g _ _ c.requires.0 e.0 e.1 refl, c.requires.1, c.requires.2, c.requires.3)

pub returns-then-f-eq65535 : goal.returns-then-f-eq65535
returns-then-f-eq65535 c =
    let a = c.args in
    let e = c.bucket-b.ensures in record {
      chains = (λ h. chains_more a.hash.now a.head.now a.next.now a.g c.requires.0 _ c.requires.3 e.0 e.1);
      none = (λ h. c.find-f.ensures.none c.if-f-eq65535.true);
      long = (length-set a.head.now _ _, length-set a.next.now _ _);
    }

pub returns : goal.returns
returns c =
    let a = c.args in
    let r = c.find-f.result in record {
      chains = (λ h. let l : r < a.g = below (dec_lt r a.g) (λ k. c.if-f-eq65535.false (h k)) in
          chains_skip a.hash.now a.head.now a.next.now a.g c.requires.0 r l (c.find-f.ensures.found l));
      none = (λ e. absurd (c.if-f-eq65535.false e));
      long = (refl, refl);
    }
  where
    below : {r g : ℕ} → Dec (r < g) → (g ≤ r → ⊥) → r < g
    below (yes l) h = l
    below (no l) h = absurd (h (omega arith))
