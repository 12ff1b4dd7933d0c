-- Minus a byte. Assumes nothing.
use Prim.Native.Nat.{ℕ, zero, suc, ◌<◌}
use mathlib.Core.Path.{◌≡◌, subst⁻¹, ap, ◌∙◌}
use native.Mathlib.Omega.{arith}
use borrow.Author.Rules.{rules}
use lib.IntN.{ℤ, pos, neg_ℤ, ◌-ℤ◌, +ℤ_idl}
use mir.Syntax.{w64}
use mir.Val.{SFits, to_z, of_z}
use mir.ValLaws.{to_z_pos, to_z-of_z}
use Rattle.winged.proofs.sending.minus.Goals as goal

neg-fits : (k : ℕ) → k < 256 → SFits w64 (neg_ℤ (pos k))
neg-fits zero h = record { sfits = search rules }
neg-fits (suc k) h = record { sfits = omega (arith, h) }

is-neg : (k : ℕ) → k < 256 → pos 0 -ℤ to_z w64 k ≡ neg_ℤ (pos k)
is-neg k h = ap (λ (z : ℤ). pos 0 -ℤ z) (to_z_pos w64 k (omega (arith, h))) ∙ +ℤ_idl (neg_ℤ (pos k))

pub overflow_sub-result : goal.overflow_sub-result
overflow_sub-result c = subst⁻¹ (λ (z : ℤ). SFits w64 z) (is-neg _ c.ranges.k.fits) (neg-fits _ c.ranges.k.fits)

pub returns : goal.returns
returns c = ap (λ (z : ℤ). to_z w64 (of_z w64 z)) (is-neg _ c.ranges.k.fits) ∙ to_z-of_z w64 _ (neg-fits _ c.ranges.k.fits)
