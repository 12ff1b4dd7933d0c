-- More of the last index below m at which a test passes.
use mathlib.Core.Path.{◌≡◌, refl, ap₂}
use mathlib.Core.Bool.{Bool, true, cond}
use mathlib.Core.Logic.{⊎_elim}
use Prim.Native.Nat.{ℕ, zero, suc, ◌<◌}
use native.Mathlib.Omega.{arith}
use Rattle.matching.specs.Inner.Matching.{last_below}
use Rattle.matching.proofs.Earlier.{last_passes}

pub last_ext : (p q : ℕ → Bool) (m : ℕ) → ((f : ℕ) → f < m → p f ≡ q f) → last_below p m ≡ last_below q m
last_ext p q zero h = refl
last_ext p q (suc m) h = ap₂ (λ t n. cond t m n) (h m (omega arith)) (last_ext p q m (λ f l. h f (omega arith)))

-- where there is one, the test passes at it
pub last_is : (p : ℕ → Bool) (m : ℕ) → (last_below p m ≡ 65535 → ⊥) → (last_below p m < m) × (p (last_below p m) ≡ true)
last_is p m h = ⊎_elim (λ z. absurd (h z)) (λ r. r) (last_passes p m)
