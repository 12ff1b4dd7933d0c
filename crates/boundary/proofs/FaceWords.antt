-- A face of a cell of a table, by its sign, its vertices and its material.
--   face-sign                     its sign word is the cell's, turned over a times
--   face-before, face-behind      its vertices are the cell's before position a and behind it
--   face-row, face-long           it has d vertices, and face_size d words
--   word_vertex, word_material    word k + 1 is vertex k, the last word the material
-- Assumes nothing.
use mathlib.Core.Path.{◌≡◌, refl, ap}
use mathlib.Core.List.{List, [], ◌∷◌, ◌++◌}
use Prim.Native.Nat.{ℕ, zero, suc, ◌≤◌, ◌<◌}
use native.Mathlib.Nat.{le_of_suc-le-suc, not-suc-le-zero}
use native.Mathlib.Omega.{arith}
use lib.ListN.{length, get_or, length-append, get_or-append}
use Rattle.words.specs.Records.{part}
use Rattle.simplex.specs.Cell.{Row}
use Rattle.simplex.specs.Faces.{without}
use Rattle.simplex.specs.SignWords.{sign_word, turned_sign}
use Rattle.records.specs.Layout.{record_size, face_size, face_words, entry_in}
use Rattle.records.specs.Inner.Inside.{Inside, sign_in, material_in, vertex_in}
use Rattle.records.proofs.Places.{record_long, row-long, sign_at_lem}
use Rattle.boundary.specs.Inner.Walk.{face_at}

without-long : (a : ℕ) (w : Row) → a < length w → suc (length (without a w)) ≡ length w
without-long a [] h = absurd (not-suc-le-zero h)
without-long zero (x ∷ w) h = refl
without-long (suc a) (x ∷ w) h = ap suc (without-long a w (le_of_suc-le-suc h))

without-before : (a j : ℕ) (w : Row) → j < a → get_or (without a w) j 0 ≡ get_or w j 0
without-before a j [] h = refl
without-before zero j (x ∷ w) h = absurd (not-suc-le-zero h)
without-before (suc a) zero (x ∷ w) h = refl
without-before (suc a) (suc j) (x ∷ w) h = without-before a j w (le_of_suc-le-suc h)

without-behind : (a j : ℕ) (w : Row) → a ≤ j → get_or (without a w) j 0 ≡ get_or w (suc j) 0
without-behind a j [] h = refl
without-behind zero j (x ∷ w) h = refl
without-behind (suc a) zero (x ∷ w) h = absurd (not-suc-le-zero h)
without-behind (suc a) (suc j) (x ∷ w) h = without-behind a j w (le_of_suc-le-suc h)

pub at_end : (w : Row) (m n : ℕ) → length w ≡ n → get_or (w ++ m ∷ []) n 0 ≡ m
at_end [] m zero e = refl
at_end [] m (suc n) e = absurd (omega arith)
at_end (x ∷ w) m zero e = absurd (omega arith)
at_end (x ∷ w) m (suc n) e = at_end w m n (omega arith)

module _ (d s : ℕ) (ws : List ℕ) (p : ℕ) (i : Inside d s p ws) (a : ℕ) (ha : a ≤ d) where
  long : length (part (record_size d) p ws) ≡ record_size d
  long = record_long d s p ws i.number i.long

  pub face-row : length (face_at d ws p a).row ≡ d
  face-row =
      let row : length (entry_in d ws p).cell.row ≡ suc d = row-long d (part (record_size d) p ws) long in
      omega (arith, without-long a (entry_in d ws p).cell.row (omega arith))

  pub face-long : length (face_words (face_at d ws p a)) ≡ face_size d
  face-long = omega (arith, face-row, length-append (face_at d ws p a).row ((face_at d ws p a).material ∷ []))

  pub word_vertex : (k : ℕ) → k < d → get_or (face_words (face_at d ws p a)) (suc k) 0 ≡ get_or (face_at d ws p a).row k 0
  word_vertex k h = get_or-append (face_at d ws p a).row ((face_at d ws p a).material ∷ []) 0 k (omega (arith, face-row))

  pub word_material : get_or (face_words (face_at d ws p a)) (suc d) 0 ≡ material_in d ws p
  word_material = at_end (face_at d ws p a).row (material_in d ws p) d face-row

  pub face-sign : turned_sign (sign_in d ws p) a ≡ sign_word (face_at d ws p a).sign
  face-sign = rw (sign_at_lem d (part (record_size d) p ws) long)

  pub face-before : (k : ℕ) → k < a → get_or (face_at d ws p a).row k 0 ≡ vertex_in d ws p k
  face-before k h = without-before a k (entry_in d ws p).cell.row h

  pub face-behind : (k : ℕ) → a ≤ k → get_or (face_at d ws p a).row k 0 ≡ vertex_in d ws p (suc k)
  face-behind k h = without-behind a k (entry_in d ws p).cell.row h
