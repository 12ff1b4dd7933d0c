-- Little-endian numbers and floats in a list of bytes.
--   word16 b at       the 16-bit number whose bytes stand at `at` and `at + 1`
--   word64 b at       the 64-bit number of the 8 bytes from `at`
--   float64 b at      the float with these 64 bits
--   words16 b         all 16-bit numbers of a list of bytes; a last odd byte is left out
--   bytes_of ws        the bytes of a list of 16-bit numbers
--   words_from b at m  the m 16-bit numbers that stand one after the other from `at`
use Rattle.std.specs.Prelude.{List, [], ◌∷◌, ℕ, zero, suc, ◌+◌, ◌*◌, ◌/◌, ◌%◌, get_or, Float}
use Rattle.std.specs.Float.{binary64}
use Rattle.std.specs.Float.Ieee.{of_bits}

abbrev pub word16 : List ℕ → ℕ → ℕ
word16 b at = get_or b at 0 + get_or b (at + 1) 0 * 256

-- a number of k bytes, the lowest first
abbrev pub number : ℕ → List ℕ → ℕ → ℕ
number zero b at = 0
number (suc k) b at = get_or b at 0 + number k b (at + 1) * 256

abbrev pub word64 : List ℕ → ℕ → ℕ
word64 = number 8

abbrev pub float64 : List ℕ → ℕ → Float
float64 b at = of_bits binary64 (word64 b at)

abbrev pub words16 : List ℕ → List ℕ
words16 [] = []
words16 (x ∷ []) = []
words16 (x ∷ (y ∷ b)) = (x + y * 256) ∷ words16 b

abbrev pub bytes_of : List ℕ → List ℕ
bytes_of [] = []
bytes_of (w ∷ ws) = (w % 256) ∷ (w / 256 % 256) ∷ bytes_of ws

abbrev pub words_from : List ℕ → ℕ → ℕ → List ℕ
words_from b at zero = []
words_from b at (suc m) = word16 b at ∷ words_from b (at + 2) m
