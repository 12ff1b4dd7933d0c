-- The four tests of a record. Assumes nothing.
use native.Mathlib.Omega.{arith}
use Rattle.soundness.proofs.rows.is_fine.Goals as goal

pub returns : goal.returns
returns c = λ e.
    record {
      sign = omega (arith, c.if-sign-gt1.false, c.sign.ensures);
      material = omega (arith, c.if-material-gt-MAX_MATERIAL.false, c.material.ensures);
      low = omega (arith, c.if-v-from.false, c.vertex.ensures, c.from.ensures);
      up = c.ascends.ensures e;
    }
