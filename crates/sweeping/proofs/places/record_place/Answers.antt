-- The product is small. Assumes nothing.
use Rattle.std.proofs.Common.{◌≡◌, ℕ, suc, ◌*◌, ◌≤◌, ap, mul-le-mul, arith}
use Rattle.records.specs.Layout.{record_size}
use Rattle.sweeping.proofs.places.record_place.Goals as goal
use Rattle.sweeping.proofs.places.record_place.Goals.{After-record_size}

low : (c : After-record_size) → c.args.k * c.record_size.result ≤ 126
low c = mul-le-mul {n₁ = c.args.k} {m₁ = c.record_size.result} {n₂ = 7} {m₂ = 18} (omega arith) (omega arith)

pub returns : goal.returns
returns c =
    let size : c.record_size.result ≡ record_size (suc c.args.d) = omega (arith, c.record_size.ensures) in
    record {
      place = ap (λ (n : ℕ). c.args.k * n) size;
      low = low c;
    }
