-- A list written from its start on, place by place.
-- Assumes nothing.
use mathlib.Core.Path.{◌≡◌, ◌∙◌, subst}
use mathlib.Core.List.{List}
use Prim.Native.Nat.{ℕ, ◌+◌, ◌<◌}
use native.Mathlib.Decide.{dec_lt}
use native.Mathlib.Omega.{arith}
use lib.ListN.{length, get_or, set}
use lib.Seq.{get_or-set_same, get_or-set_other}

-- one place more
pub filled_more : (at : ℕ → ℕ) (xs : List ℕ) (m x : ℕ) → m < length xs → ((i : ℕ) → i < m → get_or xs i 0 ≡ at i) → x ≡ at m →
    (i : ℕ) → i < m + 1 → get_or (set xs m x) i 0 ≡ at i
filled_more at xs m x room old new i l = go (dec_lt i m)
  where
    go : Dec (i < m) → get_or (set xs m x) i 0 ≡ at i
    go (yes h) = get_or-set_other xs m i x 0 (λ z. omega (arith, z, h)) ∙ old i h
    go (no h) = let e : m ≡ i = omega arith in subst (λ j. get_or (set xs m x) j 0 ≡ at j) e (get_or-set_same xs m x 0 room ∙ new)
