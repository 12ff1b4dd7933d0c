-- The keys of a table gone through in their order, each paired with an earlier one that has its face.
--   wing_of d ws g         the wing at key g
--   MeetsAt d ws f g      the places of keys f and g meet
--   New d ws g            no earlier key has the face of key g
--   First d ws m g        key g is new, and has no wing, or meets a later key below m
--   Second d ws g         an earlier key meets key g
--   total m x             the sum of x at the numbers below m
--   Paired d ws m n       of the keys below m each is first or second, or is new and waits for its pair; at most n wait
--   Passing d s ws .. m n         the same of a table whose rows ascend, with its keys in their buckets
--   PassingAlike d s ws .. m n    the same, where of hashes no more is known than that equal faces have equal ones
use Rattle.std.specs.Prelude.{◌≡◌, ◌⊎◌, List, ℕ, zero, suc, ◌+◌, ◌*◌, ◌/◌, ◌%◌, ◌≤◌, ◌<◌, length}
use Rattle.simplex.specs.Sort.{Asc}
use Rattle.records.specs.Layout.{empty}
use Rattle.records.specs.Inner.Inside.{Table, wing_in}
use Rattle.soundness.specs.Inner.Certified.{Meets, row_in}
use Rattle.soundness.specs.Inner.Hashing.{Alike, Chains, Hashes, face_of}

abbrev pub wing_of : ℕ → List ℕ → ℕ → ℕ
wing_of d ws g = wing_in d ws (g / suc d) (g % suc d)

abbrev pub MeetsAt : ℕ → List ℕ → ℕ → ℕ → Type 0
MeetsAt d ws f g = Meets d ws (f / suc d) (f % suc d) (g / suc d) (g % suc d)

abbrev pub New : ℕ → List ℕ → ℕ → Type 0
New d ws g = (j : ℕ) → j < g → face_of d ws j ≡ face_of d ws g → ⊥

abbrev pub First : ℕ → List ℕ → ℕ → ℕ → Type 0
First d ws m g = New d ws g × ((wing_of d ws g ≡ empty) ⊎ ((h : ℕ) × (g < h) × (h < m) × MeetsAt d ws g h))

abbrev pub Second : ℕ → List ℕ → ℕ → Type 0
Second d ws g = (f : ℕ) × (f < g) × MeetsAt d ws f g

abbrev pub total : ℕ → (ℕ → ℕ) → ℕ
total zero x = 0
total (suc m) x = total m x + x m

pub record Paired (d : ℕ) (ws : List ℕ) (m n : ℕ) : Type 0 where
  pub waits : ℕ → ℕ
  pub few : total m waits ≤ n
  pub done : (g : ℕ) → g < m → (First d ws m g ⊎ Second d ws g) ⊎ (New d ws g × (1 ≤ waits g))

pub record Passing (d s : ℕ) (ws hash head next : List ℕ) (m n : ℕ) : Type 0 where
  pub table : Table d s ws
  pub up : (p : ℕ) → p < s → Asc (row_in d ws p)
  pub wide : s * suc d ≤ length hash
  pub deep : s * suc d ≤ length next
  pub hashed : Hashes d ws hash (s * suc d)
  pub chains : Chains hash head next m
  pub paired : Paired d ws m n
  pub low : n ≤ m

pub record PassingAlike (d s : ℕ) (ws hash head next : List ℕ) (m n : ℕ) : Type 0 where
  pub table : Table d s ws
  pub up : (p : ℕ) → p < s → Asc (row_in d ws p)
  pub wide : s * suc d ≤ length hash
  pub deep : s * suc d ≤ length next
  pub alike : Alike d ws hash (s * suc d)
  pub chains : Chains hash head next m
  pub paired : Paired d ws m n
  pub low : n ≤ m
