-- What the code looks for among keys numbered from 0.
--   seen_at n P g              whether the list P names a key below n at g
--   seen_twice n P g           whether it names one there that it names a key at too
--   seen_like n P sg g         whether it names one there with the same sign, sg being the signs of the keys
use Rattle.std.specs.Prelude.{Bool, ◌&&◌, List, ℕ, ltb, get_or}
use Rattle.simplex.specs.Cell.{Sign, times}

abbrev pub seen_at : ℕ → List ℕ → ℕ → Bool
seen_at n P g = ltb (get_or P g 0) n

abbrev pub seen_twice : ℕ → List ℕ → ℕ → Bool
seen_twice n P g = seen_at n P g && seen_at n P (get_or P g 0)

abbrev pub seen_like : ℕ → List ℕ → (ℕ → Sign) → ℕ → Bool
seen_like n P sg g = seen_at n P g && times (sg g) (sg (get_or P g 0))
