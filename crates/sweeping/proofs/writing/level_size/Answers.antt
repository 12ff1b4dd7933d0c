-- The product is small. Assumes nothing.
use Rattle.std.proofs.Common.{◌≡◌, ℕ, suc, ◌+◌, ◌*◌, ap, ◌∙◌, mul_assoc, arith}
use Rattle.records.specs.Layout.{record_size}
use Rattle.sweeping.proofs.writing.level_size.Goals as goal

pub returns : goal.returns
returns c =
    let a = c.args in
    let size : c.record_size.result ≡ record_size (suc a.d) = omega (arith, c.record_size.ensures) in
    ap (λ (n : ℕ). a.s * (a.d + 1) * n) size ∙ mul_assoc a.s (a.d + 1) (record_size (suc a.d))
