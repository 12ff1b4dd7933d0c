-- `key::first_len` meets its contract. Assumes nothing.
use Prim.Native.Nat.{◌≤◌}
use native.Mathlib.Omega.{arith}
use Rattle.printing.proofs.Digits.{digits-length}
use Rattle.listing.proofs.Bounds.{first-sum}
use Rattle.listing.proofs.key.first_len.Goals as goal
use Rattle.listing.proofs.key.first_len.Goals.{After-digits_len, After-digits_len-2, After-digits_len-3, After-digits_len-4}

-- each number has at most 20 digits
one : (c : After-digits_len) → c.digits_len.result ≤ 20
one c = omega (arith, c.digits_len.ensures, digits-length c.args.d)

two : (c : After-digits_len-2) → c.digits_len-2.result ≤ 20
two c = omega (arith, c.digits_len-2.ensures, digits-length c.args.n)

three : (c : After-digits_len-3) → c.digits_len-3.result ≤ 20
three c = omega (arith, c.digits_len-3.ensures, digits-length c.args.v)

four : (c : After-digits_len-4) → c.digits_len-4.result ≤ 20
four c = omega (arith, c.digits_len-4.ensures, digits-length c.args.faces)

pub overflow_add-result : goal.overflow_add-result
overflow_add-result c = omega (arith, one c)

pub overflow_add-result-2 : goal.overflow_add-result-2
overflow_add-result-2 c = omega (arith, one (goal.at.overflow_add-result-2 c).After-digits_len, two c)

pub overflow_add-result-3 : goal.overflow_add-result-3
overflow_add-result-3 c =
    omega (arith, one (goal.at.overflow_add-result-3 c).After-digits_len, two (goal.at.overflow_add-result-3 c).After-digits_len-2, three c)

pub overflow_add-result-4 : goal.overflow_add-result-4
overflow_add-result-4 c =
    omega (
      arith,
      one (goal.at.overflow_add-result-4 c).After-digits_len,
      two (goal.at.overflow_add-result-4 c).After-digits_len-2,
      three (goal.at.overflow_add-result-4 c).After-digits_len-3,
      four c,
    )

pub returns : goal.returns
returns c =
    record {
      value = omega (
        arith,
        c.digits_len.ensures,
        c.digits_len-2.ensures,
        c.digits_len-3.ensures,
        c.digits_len-4.ensures,
        first-sum c.args.d c.args.n c.args.v c.args.faces,
      );
      upper_bound = omega (
        arith,
        one (goal.at.returns c).After-digits_len,
        two (goal.at.returns c).After-digits_len-2,
        three (goal.at.returns c).After-digits_len-3,
        four c,
      );
    }
