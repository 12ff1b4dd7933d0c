-- The arrays of a room are long enough.
--   list_fits, table_fits     the largest list and the largest table
--   room-made                 arrays of such lengths, as the code makes them, are a room
--   room_small                the words of a list and of a table by its places
--   room_for                  arrays for n places, or as long as the largest list needs, are a room for a call with at most n
-- Assumes nothing.
use mathlib.Core.Bool.{not}
use mathlib.Core.List.{List}
use mathlib.Core.Path.{◌≡◌, ap}
use Prim.Native.Nat.{ℕ, min, suc, ◌*◌, ◌≤◌, ◌<◌}
use native.Mathlib.Nat.{mul_assoc, mul-le-mul}
use native.Mathlib.Omega.{arith}
use lib.ListN.{length, replicate, length-replicate, get_or-replicate}
use Rattle.rules.specs.Limits.{max_cells, max_dimension}
use Rattle.rules.proofs.InLimits.{limits_are}
use Rattle.records.specs.Layout.{list_size, record_size, list_length, table_length}
use Rattle.direct.specs.Inner.Direct.{Buckets, Lent}

pub list_fits : (d s : ℕ) → d ≤ max_dimension → s ≤ max_cells → list_length d s ≤ list_length max_dimension max_cells
list_fits d s hd hs = mul-le-mul {m₁ = list_size d} {m₂ = list_size max_dimension} hs (omega arith)

pub table_fits : (d s : ℕ) → d ≤ max_dimension → s ≤ max_cells → table_length d s ≤ table_length max_dimension max_cells
table_fits d s hd hs = mul-le-mul {m₁ = record_size d} {m₂ = record_size max_dimension} hs (omega arith)

pub buckets_empty : (d s n h : ℕ) → s * suc d ≤ n → 0 < h → h ≤ 65536 →
    Buckets d s (replicate {A = ℕ} n 0) (replicate {A = ℕ} h 65535) (replicate {A = ℕ} n 0)
buckets_empty d s n h few some most =
    let places = length-replicate {A = ℕ} n 0 in
    let heads = length-replicate {A = ℕ} h 65535 in
    record {
      hash_room = omega (arith, places);
      next_room = omega (arith, places);
      heads = omega (arith, heads);
      few-heads = omega (arith, heads);
      blank = λ b l. get_or-replicate {A = ℕ} h b 65535 0 (omega (arith, heads, l));
    }

-- what a room of such arrays gives
pub room-made : (d s n l t h : ℕ) → s * suc d ≤ n → list_length d s ≤ l → table_length d s ≤ t → 0 < h → h ≤ 65536 →
    Buckets d s (replicate {A = ℕ} n 0) (replicate {A = ℕ} h 65535) (replicate {A = ℕ} n 0)
    × (list_length d s ≤ length (replicate {A = ℕ} l 0)) × (table_length d s ≤ length (replicate {A = ℕ} t 0))
room-made d s n l t h few list table some most = (
  buckets_empty d s n h few some most,
  omega (arith, length-replicate {A = ℕ} l 0),
  omega (arith, length-replicate {A = ℕ} t 0),
)

pub room_small : (d s n : ℕ) → 1 ≤ d → s * suc d ≤ n → (list_length d s ≤ n * 2) × (table_length d s ≤ n * 3)
room_small d s n some few =
    let list : list_length d s ≤ s * (suc d * 2) =
    mul-le-mul {n₁ = s} {m₁ = list_size d} {n₂ = s} {m₂ = suc d * 2} (omega arith) (omega arith) in
    let table : table_length d s ≤ s * (suc d * 3) =
    mul-le-mul {n₁ = s} {m₁ = record_size d} {n₂ = s} {m₂ = suc d * 3} (omega arith) (omega arith) in
    (omega (arith, list, mul_assoc s (suc d) 2), omega (arith, table, mul_assoc s (suc d) 3))

pub room_for : (d v s n l t h : ℕ) (cells table uploaded : List ℕ) → Lent d v s cells table uploaded × (s * suc d ≤ n) →
    (l ≡ min (n * 2) 40960) × (t ≡ min (n * 3) 73728) × (0 < h) × (h ≤ 65536) →
    (Lent d v s cells table uploaded × Buckets d s (replicate {A = ℕ} n 0) (replicate {A = ℕ} h 65535) (replicate {A = ℕ} n 0))
    × ((list_length d s ≤ length (replicate {A = ℕ} l 0)) × (table_length d s ≤ length (replicate {A = ℕ} t 0)))
room_for d v s n l t h cells table uploaded (lent, few) (list, words, some, most) =
    let small = room_small d s n lent.some few in
    let a = limits_are max_dimension d v s (ap not lent.shape) in
    let room =
    room-made d s n l t h few (omega (arith, small.0, list_fits d s a.dimension a.cells)) (omega (arith, small.1, table_fits d s a.dimension a.cells))
    some most in
    ((lent, room.0), (room.1, room.2))
