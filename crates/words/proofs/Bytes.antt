-- Laws of little-endian numbers.
--   little64          the number that the library makes of 8 bytes
--   words_get, words_drop         of the numbers from a place: number k, and those from number k on
--   words_of          all numbers of a list of bytes are those from its start, wherever it stands in another list
--   words_all         so they are those from 0 on
--   words-length, words_count, bytes-length     how many there are
-- Assumes nothing.
use mathlib.Core.Path.{◌≡◌, refl, sym, ap, ap₂, ◌∙◌}
use mathlib.Core.List.{List, [], ◌∷◌}
use Prim.Native.Nat.{ℕ, zero, suc, ◌+◌, ◌-◌, ◌*◌, ◌/◌, ◌≤◌, ◌<◌}
use native.Mathlib.Nat.{not-suc-le-zero, le_of_suc-le-suc, add-zero, zero-add}
use native.Mathlib.Omega.{arith}
use lib.ListN.{length, get_or, drop}
use Rattle.std.specs.Int.{w64, from_le_bytes}
use Rattle.words.specs.Bytes.{word16, word64, words16, bytes_of, words_from}

-- byte i, as the code and as the definition counts to it
byte : (b : List ℕ) (i j : ℕ) → i ≡ j → get_or b i 0 ≡ get_or b j 0
byte b i j e = ap (λ k. get_or b k 0) e

pub little64 : (b : List ℕ) (at : ℕ) →
    from_le_bytes w64 (get_or b at 0 ∷ get_or b (at + 1) 0 ∷ get_or b (at + 2) 0 ∷ get_or b (at + 3) 0 ∷ get_or b (at + 4) 0
    ∷ get_or b (at + 5) 0 ∷ get_or b (at + 6) 0 ∷ get_or b (at + 7) 0 ∷ []) ≡ word64 b at
little64 b at =
    omega (
      arith,
      byte b (at + 2) (at + 1 + 1) (omega arith),
      byte b (at + 3) (at + 1 + 1 + 1) (omega arith),
      byte b (at + 4) (at + 1 + 1 + 1 + 1) (omega arith),
      byte b (at + 5) (at + 1 + 1 + 1 + 1 + 1) (omega arith),
      byte b (at + 6) (at + 1 + 1 + 1 + 1 + 1 + 1) (omega arith),
      byte b (at + 7) (at + 1 + 1 + 1 + 1 + 1 + 1 + 1) (omega arith),
    )

pub words-length : (b : List ℕ) (at m : ℕ) → length (words_from b at m) ≡ m
words-length b at zero = refl
words-length b at (suc m) = ap suc (words-length b (at + 2) m)

pub words_get : (b : List ℕ) (at m k : ℕ) → k < m → get_or (words_from b at m) k 0 ≡ word16 b (at + k * 2)
words_get b at zero k h = absurd (not-suc-le-zero h)
words_get b at (suc m) zero h = let e : at ≡ at + 0 * 2 = omega arith in ap (word16 b) e
words_get b at (suc m) (suc k) h =
    let e : at + 2 + k * 2 ≡ at + suc k * 2 = omega arith in
    words_get b (at + 2) m k (le_of_suc-le-suc h) ∙ ap (word16 b) e

pub words_drop : (b : List ℕ) (at m k : ℕ) → drop k (words_from b at m) ≡ words_from b (at + k * 2) (m - k)
words_drop b at m zero =
    let e : at ≡ at + 0 * 2 = omega arith in
    let f : m ≡ m - 0 = omega arith in
    ap₂ (words_from b) e f
words_drop b at zero (suc k) = let f : 0 ≡ 0 - suc k = omega arith in ap (words_from b (at + suc k * 2)) f
words_drop b at (suc m) (suc k) =
    let e : at + 2 + k * 2 ≡ at + suc k * 2 = omega arith in
    let f : m - k ≡ suc m - suc k = omega arith in
    words_drop b (at + 2) m k ∙ ap₂ (words_from b) e f

pub bytes-length : (ws : List ℕ) → length (bytes_of ws) ≡ length ws * 2
bytes-length [] = refl
bytes-length (w ∷ ws) = omega (arith, bytes-length ws)

pub words_of : (m : ℕ) (r b : List ℕ) (at : ℕ) → m * 2 ≤ length r → length r ≤ m * 2 + 1 →
    ((i : ℕ) → i < m * 2 → get_or r i 0 ≡ get_or b (at + i) 0) → words16 r ≡ words_from b at m
words_of zero [] b at h l e = refl
words_of zero (x ∷ []) b at h l e = refl
words_of zero (x ∷ (y ∷ r)) b at h l e = absurd (omega arith)
words_of (suc m) [] b at h l e = absurd (omega arith)
words_of (suc m) (x ∷ []) b at h l e = absurd (omega arith)
words_of (suc m) (x ∷ (y ∷ r)) b at h l e =
    ap₂ {C = List ℕ} (λ a w. a ∷ w)
    (omega (arith, e 0 (omega arith) ∙ ap (λ k. get_or b k 0) (add-zero at), e 1 (omega arith)))
    (words_of m r b (at + 2) (omega arith) (omega arith)
    (λ i k. let s : at + suc (suc i) ≡ at + 2 + i = omega arith in e (suc (suc i)) (omega arith) ∙ ap (λ j. get_or b j 0) s))

-- of a whole list, with a last odd byte left out
pub words_all : (b : List ℕ) → words16 b ≡ words_from b 0 (length b / 2)
words_all b = words_of (length b / 2) b b 0 (omega arith) (omega arith) (λ i h. ap (λ k. get_or b k 0) (sym (zero-add i)))

pub words_count : (b : List ℕ) → length (words16 b) ≡ length b / 2
words_count b = ap length (words_all b) ∙ words-length b 0 (length b / 2)
