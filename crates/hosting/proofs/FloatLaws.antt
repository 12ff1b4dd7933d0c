-- Floats in bytes.
--   floats_length, float_of       how many there are, and each by its place
--   words_front, floats_front     words and floats decoded to the front of an array
--   low-length, low_le            the bytes of a number: how many, and that `to_le_bytes` has them
--   float_bytes-length            how many bytes floats have
-- Assumes nothing.
use mathlib.Core.Path.{◌≡◌, refl, sym, ap, ◌∙◌}
use mathlib.Core.List.{List, [], ◌∷◌, ◌++◌}
use Prim.Native.Nat.{ℕ, zero, suc, ◌*◌, ◌/◌, ◌%◌, ◌^◌, ◌<◌}
use native.Mathlib.Nat.{pow-suc, div-one, div-div-eq-div-mul}
use native.Mathlib.Omega.{arith}
use lib.Ieee.{Float, nan, binary64, to_bits}
use lib.ListN.{length, get_or, take, length-append}
use lib.Seq.{take_at}
use mir.Syntax.{w64}
use Rattle.std.specs.Int.{byte_at, bytes_low_first, to_le_bytes}
use Rattle.words.specs.Bytes.{float64, words16}
use Rattle.words.proofs.Bytes.{words_count}
use Rattle.words.proofs.Records.{tabulate-length, tabulate_at}
use Rattle.rules.specs.Calls.{written}
use Rattle.rules.proofs.Accepting.{front_of}
use Rattle.hosting.specs.Floats.{floats64, low_bytes, float_bytes}

module _ (b : List ℕ) where
  pub floats_length : length (floats64 b) ≡ length b / 8
  unfolding floats64
  floats_length = tabulate-length (length b / 8) (λ k. float64 b (k * 8))

  pub float_of : (k : ℕ) → k < length b / 8 → get_or (floats64 b) k nan ≡ float64 b (k * 8)
  unfolding floats64
  float_of k h = tabulate_at (length b / 8) (λ k. float64 b (k * 8)) k nan h

  pub words_front : (w rest : List ℕ) → w ≡ words16 b ++ rest → take (length b / 2) w ≡ words16 b
  words_front w rest e = ap (take (length b / 2)) e ∙ take_at (words16 b) rest (length b / 2) (words_count b)

  pub floats_front : (w rest : List Float) → w ≡ written (floats64 b) rest → take (length b / 8) w ≡ floats64 b
  floats_front w rest e = (front_of (floats64 b) rest w (length b / 8) e (sym floats_length)).1

pub low-length : (m w : ℕ) → length (low_bytes m w) ≡ m
low-length zero w = refl
low-length (suc m) w = ap suc (low-length m (w / 256))

-- the bytes from byte i on are those of what is above it
byte-above : (i n : ℕ) → byte_at i n ≡ n / 256 ^ i % 256
byte-above zero n = ap (λ m. m % 256) (sym (div-one n))
byte-above (suc i) n = refl

low-from : (m i n : ℕ) → bytes_low_first i m n ≡ low_bytes m (n / 256 ^ i)
low-from zero i n = refl
low-from (suc m) i n =
    let above : n / 256 ^ suc i ≡ n / 256 ^ i / 256 = ap (λ k. n / k) (pow-suc 256 i) ∙ sym (div-div-eq-div-mul n (256 ^ i) 256) in
    ap (λ b. b ∷ bytes_low_first (suc i) m n) (byte-above i n)
    ∙ ap (λ (bs : List ℕ). (n / 256 ^ i % 256) ∷ bs) (low-from m (suc i) n ∙ ap (low_bytes m) above)

pub low_le : (n : ℕ) → to_le_bytes w64 n ≡ low_bytes 8 n
low_le n = low-from 8 0 n ∙ ap (low_bytes 8) (div-one n)

pub float_bytes-length : (xs : List Float) → length (float_bytes xs) ≡ length xs * 8
unfolding float_bytes
float_bytes-length [] = refl
float_bytes-length (x ∷ xs) = let x8 = low_bytes 8 (to_bits binary64 x) in
    omega (arith, length-append x8 (float_bytes xs), low-length 8 (to_bits binary64 x), float_bytes-length xs)
