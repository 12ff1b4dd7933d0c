-- Keys linked by a number. of f is the number of key f: that of its bucket, or of its class.
--   last_of of b m             the last key before m of number b, or 65535
--   Heads of head n m         head has the last key before m of each number below n
--   Linked of prev m          prev has, for each key before m, the last earlier key of its number
--   Linking of head prev n m  both, while the keys before m are linked
use Rattle.std.specs.Prelude.{List, ◌≡◌, ℕ, ◌<◌, eqb, length, get_or}
use Rattle.matching.specs.Inner.Matching.{last_below}

unfoldable pub last_of : (ℕ → ℕ) → ℕ → ℕ → ℕ
last_of of b m = last_below (λ f. eqb (of f) b) m

abbrev pub Heads : (ℕ → ℕ) → List ℕ → ℕ → ℕ → Type 0
Heads of head n m = (b : ℕ) → b < n → get_or head b 0 ≡ last_of of b m

abbrev pub Linked : (ℕ → ℕ) → List ℕ → ℕ → Type 0
Linked of prev m = (f : ℕ) → f < m → get_or prev f 0 ≡ last_of of (of f) f

pub record Linking (of : ℕ → ℕ) (head prev : List ℕ) (n m : ℕ) : Type 0 where
  pub heads : Heads of head n m
  pub links : Linked of prev m
  pub head_long : length head ≡ 32768
  pub prev_long : length prev ≡ 32768
