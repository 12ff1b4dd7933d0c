-- Weights and hashes of rows, and the face of a key.
use mathlib.Core.Path.{◌≡◌, refl, sym, ap, ◌∙◌}
use mathlib.Core.List.{List, [], ◌∷◌}
use Prim.Native.Nat.{ℕ, zero, suc, ◌+◌, ◌*◌, ◌-◌, ◌%◌, ◌≤◌, ◌<◌}
use native.Mathlib.Nat.{not-suc-le-zero}
use native.Mathlib.Omega.{arith}
use lib.ListN.{length, get_or, take}
use Rattle.simplex.specs.Cell.{Row}
use Rattle.simplex.specs.Faces.{without}
use Rattle.simplex.proofs.Without.{without-length}
use Rattle.matching.proofs.Quotients.{cell_of_key, place_of_key}
use Rattle.soundness.specs.Inner.Certified.{face_in}
use Rattle.soundness.specs.Inner.Hashing.{Alike, Hashes, term, weight, scattered, linear, hash_of, face_of}

-- one vertex more
pub weight-take : (j : ℕ) (w : Row) → j < length w → weight (take (suc j) w) ≡ weight (take j w) + term (get_or w j 0)
weight-take j [] h = absurd (not-suc-le-zero h)
weight-take zero (x ∷ w) h = omega arith
weight-take (suc j) (x ∷ w) h = omega (arith, weight-take j w (omega arith))

-- one vertex less
pub weight-without : (a : ℕ) (w : Row) → a < length w → term (get_or w a 0) + weight (without a w) ≡ weight w
weight-without a [] h = absurd (not-suc-le-zero h)
weight-without zero (x ∷ w) h = refl
weight-without (suc a) (x ∷ w) h = omega (arith, weight-without a w (omega arith))

-- the hash of a row of two vertices and more
long_hash : (w : Row) → 2 ≤ length w → hash_of w ≡ scattered (weight w)
long_hash [] h = absurd (omega arith)
long_hash (x ∷ []) h = absurd (omega arith)
long_hash (x ∷ (y ∷ w)) h = refl

-- the hash of a face of three vertices and more
pub hash_is : (a sum t x : ℕ) (w : Row) → a < length w → 3 ≤ length w → sum ≡ weight w → t ≡ term (get_or w a 0) → x ≡ scattered (sum - t) →
    x ≡ hash_of (without a w)
hash_is a sum t x w h two es et ex =
    let e : sum - t ≡ weight (without a w) = omega (arith, weight-without a w h) in
    ex ∙ ap scattered e ∙ sym (long_hash (without a w) (omega (arith, without-length a w h)))

-- the faces of a segment have its other vertex
pub segment_hash : (w : Row) → length w ≡ 2 → (hash_of (without 0 w) ≡ linear (get_or w 1 0)) × (hash_of (without 1 w) ≡ linear (get_or w 0 0))
segment_hash [] e = absurd (omega arith)
segment_hash (x ∷ []) e = absurd (omega arith)
segment_hash (x ∷ (y ∷ [])) e = (refl, refl)
segment_hash (x ∷ (y ∷ (z ∷ w))) e = absurd (omega arith)

-- the face of a key, by its place
pub face_of_lem : (d : ℕ) (ws : List ℕ) (p a : ℕ) → a ≤ d → face_of d ws (p * suc d + a) ≡ face_in d ws p a
face_of_lem d ws p a h =
    ap (λ i. face_in d ws i ((p * suc d + a) % suc d)) (cell_of_key p a (suc d) (omega arith))
    ∙ ap (λ i. face_in d ws p i) (place_of_key p a (suc d) (omega arith))

-- equal faces have equal hashes
pub hashes_alike : (d : ℕ) (ws hash : List ℕ) (n : ℕ) → Hashes d ws hash n → Alike d ws hash n
hashes_alike d ws hash n h j g hj hg e = h j hj ∙ ap hash_of e ∙ sym (h g hg)
