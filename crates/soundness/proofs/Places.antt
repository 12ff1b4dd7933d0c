-- The keys of places, and arrays for so many of them.
--   key_inside        the key of a place is within those of all cells
--   cell_below        a place whose key is within those is of one of the cells
--   few_keys          how many there are
--   arrays_made, rooms-made       arrays of such lengths, as the code makes them
use Prim.Native.Nat.{ℕ, suc, ◌+◌, ◌*◌, ◌≤◌, ◌<◌}
use native.Mathlib.Decide.{dec_lt}
use native.Mathlib.Nat.{mul-le-mul, mul-le-mul_right}
use native.Mathlib.Omega.{arith}
use lib.ListN.{replicate, length-replicate, get_or-replicate}
use Rattle.records.proofs.Parts.{inside}
use Rattle.soundness.specs.Inner.Coding.{Rooms}
use Rattle.soundness.specs.Inner.Hashing.{Arrays}

pub key_inside : (d s p a : ℕ) → p < s → a ≤ d → p * suc d + a < s * suc d
key_inside d s p a hp ha = inside s (suc d) p a hp (omega arith)

pub cell_below : (d s p a : ℕ) → p * suc d + a < s * suc d → p < s
cell_below d s p a h = go (dec_lt p s)
  where
    go : Dec (p < s) → p < s
    go (yes l) = l
    go (no l) = absurd (omega (arith, mul-le-mul_right {m = s} {n = p} (suc d) (omega arith), h))

pub few_keys : (d s : ℕ) → d ≤ 7 → s ≤ 4096 → s * suc d ≤ 32768
few_keys d s hd hs = mul-le-mul {n₂ = 4096} {m₂ = 8} hs (omega arith)

pub arrays_made : (k n h : ℕ) → k ≤ n → 0 < h → h ≤ 65536 →
    Arrays k (replicate {A = ℕ} n 0) (replicate {A = ℕ} h 65535) (replicate {A = ℕ} n 0)
arrays_made k n h l some few =
    let places = length-replicate {A = ℕ} n 0 in
    let heads = length-replicate {A = ℕ} h 65535 in
    record {
      hash_room = omega (arith, places);
      next_room = omega (arith, places);
      some = omega (arith, heads);
      few = omega (arith, heads);
      blank = λ b k. get_or-replicate {A = ℕ} h b 65535 0 (omega (arith, heads, k));
    }

pub rooms-made : (k n m : ℕ) → k ≤ n → n * 3 ≤ m → Rooms k (replicate {A = ℕ} n 0) (replicate {A = ℕ} n 0) (replicate {A = ℕ} m 0)
rooms-made k n m l h =
    let places = length-replicate {A = ℕ} n 0 in
    let words = length-replicate {A = ℕ} m 0 in
    record {
      hash_room = omega (arith, places);
      code_room = omega (arith, places);
      known_room = omega (arith, words);
    }
