-- Faces told apart by codes: a row of numbers below b is a number in base b, and no other row of its length has that number.
--   code_of b w            the row as a number, its first vertex the last digit
--   Under b w             all vertices of the row are below b
--   base_of d              the base for cells of dimension d, so that their codes have at most 63 bits
--   mixed n               32 bits of a code, for codes close together far apart
--   sign_at d ws g         the sign word of the face of key g
--   apex_at d ws g         the vertex that it leaves out
--   CodedTo d b ws .. n   of n keys the hash, the code with the sign as a last bit, and in three words what is known: wing, cell, vertex left out
--   Coded d s ws ..       of all keys of s cells
--   Rooms n ..            arrays for n keys
use Rattle.std.specs.Prelude.{◌≡◌, cond, List, [], ◌∷◌, ℕ, suc, ◌+◌, ◌*◌, ◌/◌, ◌%◌, ◌≤◌, ◌<◌, ltb, length, get_or}
use Rattle.simplex.specs.Cell.{Row}
use Rattle.simplex.specs.SignWords.{turned_sign}
use Rattle.records.specs.Inner.Inside.{sign_in, vertex_in}
use Rattle.soundness.specs.Inner.Certified.{row_in}
use Rattle.soundness.specs.Inner.Hashing.{face_of}
use Rattle.soundness.specs.Inner.Pairing.{wing_of}

abbrev pub code_of : ℕ → Row → ℕ
code_of b [] = 0
code_of b (x ∷ w) = code_of b w * b + x

abbrev pub Under : ℕ → Row → Type 0
Under b [] = Unit {0}
Under b (x ∷ w) = (x < b) × Under b w

abbrev pub base_of : ℕ → ℕ
base_of d = cond (ltb d 5) 4096 (cond (ltb d 6) 1024 (cond (ltb d 7) 512 128))

unfoldable pub mixed : ℕ → ℕ
mixed n = (n % 4294967296 * 2654435769 % 4294967296 + n / 4294967296 * 2246822519 % 4294967296) % 4294967296

abbrev pub sign_at : ℕ → List ℕ → ℕ → ℕ
sign_at d ws g = turned_sign (sign_in d ws (g / suc d)) (g % suc d)

abbrev pub apex_at : ℕ → List ℕ → ℕ → ℕ
apex_at d ws g = vertex_in d ws (g / suc d) (g % suc d)

pub record CodedTo (d b : ℕ) (ws hash code known : List ℕ) (n : ℕ) : Type 0 where
  pub hash_is : (g : ℕ) → g < n → get_or hash g 0 ≡ mixed (code_of b (face_of d ws g))
  pub code_is : (g : ℕ) → g < n → get_or code g 0 ≡ code_of b (face_of d ws g) * 2 + sign_at d ws g
  pub wing_is : (g : ℕ) → g < n → get_or known (g * 3) 0 ≡ wing_of d ws g
  pub cell_is : (g : ℕ) → g < n → get_or known (g * 3 + 1) 0 ≡ g / suc d
  pub apex_is : (g : ℕ) → g < n → get_or known (g * 3 + 2) 0 ≡ apex_at d ws g

pub record Rooms (n : ℕ) (hash code known : List ℕ) : Type 0 where
  pub hash_room : n ≤ length hash
  pub code_room : n ≤ length code
  pub known_room : n * 3 ≤ length known

pub record Coded (d s : ℕ) (ws hash code known : List ℕ) : Type 0 where
  pub base : ℕ
  pub under : (p : ℕ) → p < s → Under base (row_in d ws p)
  pub told : CodedTo d base ws hash code known (s * suc d)
  pub room : Rooms (s * suc d) hash code known
