-- The place of a key: a quotient by a product, and the rest.
use mathlib.Core.Path.{◌≡◌, ap, subst⁻¹, ◌∙◌}
use Prim.Native.Nat.{ℕ, ◌*◌, ◌/◌, ◌^◌, ◌≤◌, ◌<◌}
use native.Mathlib.Nat.{div-mul-le_self, div-add-mod'}
use native.Mathlib.Omega.{arith}
use Rattle.matching.proofs.Quotients.{cell_by_part, part_fits}
use Rattle.matching.proofs.place_of.Goals as goal
use Rattle.matching.proofs.place_of.Goals.{Start}

-- the cell as it is computed is the quotient
cell_is : (c : Start) → c.args.f * c.args.part / 1048576 ≡ c.args.f / c.args.w
cell_is c =
    ap (λ (n : ℕ). c.args.f * n / 1048576) c.requires.3
    ∙ cell_by_part _ _ c.requires.0 c.requires.1 c.requires.2

under : (c : Start) → c.args.f * c.args.part / 1048576 * c.args.w ≤ c.args.f
under c = subst⁻¹ (λ (n : ℕ). n * c.args.w ≤ c.args.f) (cell_is c) (div-mul-le_self _ _)

pub overflow_mul-cell : goal.overflow_mul-cell
overflow_mul-cell c =
    record {
      fits = subst⁻¹ (λ (n : ℕ). c.args.f * n < 2 ^ 64) c.requires.3 (part_fits _ _ c.requires.0 c.requires.1 c.requires.2);
    }

pub overflow_mul-result : goal.overflow_mul-result
overflow_mul-result c = omega (arith, under c)

pub overflow_sub-result : goal.overflow_sub-result
overflow_sub-result c = under c

pub returns : goal.returns
returns c = (cell_is c, omega (arith, ap (λ (n : ℕ). n * c.args.w) (cell_is c), div-add-mod' c.args.f c.args.w))
