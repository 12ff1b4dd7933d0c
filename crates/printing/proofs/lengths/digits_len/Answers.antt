-- A number from 10^k on and below 10^(k + 1) has k + 1 digits. Assumes nothing.
use native.Mathlib.Omega.{arith}
use Rattle.printing.proofs.Digits.{digits-one, digits-log}
use mathlib.Core.Path.{ap}
use lib.ListN.{length}
use Rattle.printing.proofs.lengths.digits_len.Goals as goal

pub returns-then-n-eq0 : goal.returns-then-n-eq0
returns-then-n-eq0 c = omega (arith, ap length (digits-one c.args.n (omega arith)))

pub returns : goal.returns
returns c =
    omega (arith, digits-log c.args.n c.ilog10.result (omega arith) c.ilog10.ensures.power_le c.ilog10.ensures.next_power_gt)
