-- `lengths::coordinate_len` meets its contract: the sum of the pieces' lengths. Assumes nothing.
use Prim.Native.Nat.{◌/◌, ◌+◌, ◌≤◌}
use native.Mathlib.Omega.{arith}
use Rattle.printing.specs.Decimal.{coordinate, thousandths, negative}
use Rattle.printing.proofs.Bounds.{minus_short, thousandths-length}
use Rattle.printing.proofs.Digits.{digits-length}
use Rattle.printing.proofs.lengths.coordinate_len.Goals as goal
use Rattle.printing.proofs.lengths.coordinate_len.Goals.{After-digits_len}

-- a minus sign and the digits of the whole part are short
short : (c : After-digits_len) → c.minus_len.result + c.digits_len.result ≤ 21
short c =
    let t = c.thousandths_of-t.result in
    omega (arith, digits-length (t / 1000), minus_short c.is_negative.result t)

pub overflow_add-result : goal.overflow_add-result
overflow_add-result c = omega (arith, short c)

pub overflow_add-result-2 : goal.overflow_add-result-2
overflow_add-result-2 c = omega (arith, short c)

pub returns : goal.returns
unfolding coordinate
returns c =
    let x = c.args.x in
    let minus = rw (c.is_negative.ensures, c.thousandths_of-t.ensures) at c.minus_len.ensures in
    let whole = rw c.thousandths_of-t.ensures at c.digits_len.ensures in
    omega (arith, thousandths-length (negative x) (thousandths x))
