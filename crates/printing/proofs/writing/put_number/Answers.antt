-- Each turn puts the last digit of the rest. Assumes nothing.
use mathlib.Core.Path.{◌≡◌, sym, ap, ◌∙◌}
use Prim.Native.Nat.{◌+◌, ◌-◌, suc}
use native.Mathlib.Omega.{arith}
use lib.ListN.{take, set}
use Rattle.words.specs.Inner.Placed.{placed}
use Rattle.words.proofs.Placed.{placed-none}
use Rattle.printing.specs.Decimal.{digits}
use Rattle.printing.proofs.Digits.{digit-less}
use Rattle.printing.proofs.writing.put_number.Goals as goal

pub loop-place-preserved : goal.loop-place-preserved
loop-place-preserved c =
    let at = c.args.at in
    let all = digits c.args.n in
    let buf = c.loop-place.buf in
    let m = c.loop-place.place - 1 - at in
    let more : c.loop-place.place - at ≡ suc m = omega arith in
    let there : c.loop-place.place - 1 ≡ at + m = omega arith in
    let last = c.loop-place.invariant.left c.loop-place-test.true ∙ ap (λ k. take k all) more in
    let less = digit-less at m c.loop-place.rest all buf (omega arith) last (omega arith) (omega arith) in
    record {
      left = λ h. less.0 (omega arith);
      put = ap (λ k. placed at (take m all) (set buf k c.digit_byte.result)) there
          ∙ ap (λ b. placed at (take m all) (set buf (at + m) b)) c.digit_byte.ensures ∙ less.1
          ∙ ap (λ k. placed at (take k all) buf) (sym more) ∙ c.loop-place.invariant.put;
    }

pub returns : goal.returns
returns c =
    let none : c.loop-place.place - c.args.at ≡ 0 = omega arith in
    record {
      place = omega arith;
      content = sym (placed-none c.args.at c.loop-place.buf) ∙ (rw none at c.loop-place.invariant.put);
    }
