-- Faces told apart by hashes, in buckets. A key is the number of a place: position g % (d + 1) of cell g / (d + 1).
--   term x                the weight of a vertex
--   weight w              the weight of a row: a sum, so that one vertex less is one term less
--   scattered n           32 bits of a number, for weights close together far apart
--   linear x              the same of a single vertex
--   hash_of w              the hash of a row: by its weight, or by its one vertex
--   bucket_in n h          the bucket of a hash, of n buckets
--   face_of d ws g         the face of key g
--   Hashes d ws hash n    the hashes of the faces of n keys
--   Alike d ws hash n     of n keys those with equal faces have equal hashes
--   last_in bk b m         the last number below m in bucket b, or 65535; bk f is the bucket of number f
--   Chained bk n head next m      head has the last number below m of each of n buckets, next for each number in one of them the one before it
--   bucket_at n hash f     the bucket of number f of a list of hashes
--   Kept bk n hash m      of the numbers below m each, or an earlier one with its hash, is in its bucket
--   Chains hash head next m       the numbers below m of a list of hashes are chained, in as many buckets as head has, or left out
--   Chain n hash next g first     the chain from number first on, in the bucket of number g, of n
--   Arrays n hash head next       arrays for n keys, with all buckets empty
use Rattle.std.specs.Prelude.{◌≡◌, List, [], ◌∷◌, ℕ, suc, ◌+◌, ◌*◌, ◌/◌, ◌%◌, ◌≤◌, ◌<◌, eqb, length, get_or}
use Rattle.simplex.specs.Cell.{Row}
use Rattle.matching.specs.Inner.Matching.{last_below}
use Rattle.soundness.specs.Inner.Certified.{face_in}

unfoldable pub term : ℕ → ℕ
term x = x * (x * (x + 123456789) + 362436069)

abbrev pub weight : Row → ℕ
weight [] = 0
weight (x ∷ w) = term x + weight w

unfoldable pub scattered : ℕ → ℕ
scattered n = n % 4294967296 * 2654435769 / 4294967296

unfoldable pub linear : ℕ → ℕ
linear x = x * 2654435769 % 4294967296

abbrev pub hash_of : Row → ℕ
hash_of [] = 0
hash_of (x ∷ []) = linear x
hash_of (x ∷ (y ∷ w)) = scattered (weight (x ∷ (y ∷ w)))

unfoldable pub bucket_in : ℕ → ℕ → ℕ
bucket_in n h = h * n / 4294967296

abbrev pub face_of : ℕ → List ℕ → ℕ → Row
face_of d ws g = face_in d ws (g / suc d) (g % suc d)

abbrev pub Hashes : ℕ → List ℕ → List ℕ → ℕ → Type 0
Hashes d ws hash n = (g : ℕ) → g < n → get_or hash g 0 ≡ hash_of (face_of d ws g)

abbrev pub Alike : ℕ → List ℕ → List ℕ → ℕ → Type 0
Alike d ws hash n = (j g : ℕ) → j < n → g < n → face_of d ws j ≡ face_of d ws g → get_or hash j 0 ≡ get_or hash g 0

unfoldable pub last_in : (ℕ → ℕ) → ℕ → ℕ → ℕ
last_in bk b m = last_below (λ f. eqb (bk f) b) m

pub record Chained (bk : ℕ → ℕ) (n : ℕ) (head next : List ℕ) (m : ℕ) : Type 0 where
  pub heads : (b : ℕ) → b < n → get_or head b 0 ≡ last_in bk b m
  pub links : (f : ℕ) → f < m → bk f < n → get_or next f 0 ≡ last_in bk (bk f) f

abbrev pub bucket_at : ℕ → List ℕ → ℕ → ℕ
bucket_at n hash f = bucket_in n (get_or hash f 0)

abbrev pub Kept : (ℕ → ℕ) → ℕ → List ℕ → ℕ → Type 0
Kept bk n hash m = (f : ℕ) → f < m → (j : ℕ) × (j ≤ f) × (get_or hash j 0 ≡ get_or hash f 0) × (bk j ≡ bucket_at n hash j)

pub record Chains (hash head next : List ℕ) (m : ℕ) : Type 0 where
  pub some : 0 < length head
  pub few : length head ≤ 65536
  pub bk : ℕ → ℕ
  pub kept : Kept bk (length head) hash m
  pub chained : Chained bk (length head) head next m

pub record Chain (n : ℕ) (hash next : List ℕ) (g first : ℕ) : Type 0 where
  pub bk : ℕ → ℕ
  pub kept : Kept bk n hash g
  pub links : (f : ℕ) → f < g → bk f < n → get_or next f 0 ≡ last_in bk (bk f) f
  pub low : bucket_at n hash g < n
  pub last : first ≡ last_in bk (bucket_at n hash g) g

pub record Arrays (n : ℕ) (hash head next : List ℕ) : Type 0 where
  pub hash_room : n ≤ length hash
  pub next_room : n ≤ length next
  pub some : 0 < length head
  pub few : length head ≤ 65536
  pub blank : (b : ℕ) → b < length head → get_or head b 0 ≡ 65535
