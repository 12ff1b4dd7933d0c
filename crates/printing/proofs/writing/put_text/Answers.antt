-- The goals that the search leaves. Assumes nothing.
use mathlib.Core.Path.{refl}
use native.Mathlib.Nat.{add-zero}
use native.Mathlib.Omega.{arith}
use Rattle.words.proofs.Writing.{left_starts, left_next, left_none}
use Rattle.printing.proofs.writing.put_text.Goals as goal

pub loop-i-init : goal.loop-i-init
loop-i-init c = rw add-zero (left_starts _ _ _ c.requires)

pub loop-i-preserved : goal.loop-i-preserved
loop-i-preserved c = left_next 0 c.args.text.now c.loop-i.i (omega arith) c.loop-i.invariant _ _ refl (omega arith)

pub returns : goal.returns
returns c = record { place = refl; content = (left_none c.args.text.now c.loop-i.i (omega arith) c.loop-i.invariant).content }
