-- Floats in bytes, by their bits, little-endian.
--   floats64 b        all floats of a list of bytes; what stands behind the last whole one is left out
--   low_bytes k w      k bytes of a number, the lowest first
--   float_bytes xs     the bytes of a list of floats, 8 each
use Rattle.std.specs.Prelude.{List, [], ◌∷◌, map, ℕ, zero, suc, ◌*◌, ◌/◌, ◌%◌, Float, length}
use Rattle.std.specs.Float.{binary64}
use Rattle.std.specs.Float.Ieee.{to_bits}
use Rattle.words.specs.Records.{tabulate, concat}
use Rattle.words.specs.Bytes.{float64}

unfoldable pub floats64 : List ℕ → List Float
floats64 b = tabulate (length b / 8) (λ k. float64 b (k * 8))

abbrev pub low_bytes : ℕ → ℕ → List ℕ
low_bytes zero w = []
low_bytes (suc k) w = (w % 256) ∷ low_bytes k (w / 256)

unfoldable pub float_bytes : List Float → List ℕ
float_bytes xs = concat (map (λ x. low_bytes 8 (to_bits binary64 x)) xs)
