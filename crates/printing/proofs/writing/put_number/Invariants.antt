-- `writing::put_number` meets its contract: with the first digits placed before the others, the buffer has the number's, and
-- the rest has these first digits. Assumes nothing.
use mathlib.Core.Path.{◌≡◌}
use Prim.Native.Nat.{◌<◌, ◌-◌}
use lib.ListN.{take}
use Rattle.words.specs.Inner.Placed.{placed}
use Rattle.printing.specs.Decimal.{digits}
use Rattle.printing.proofs.writing.put_number.Given as goal

abbrev pub invariant-loop-place : goal.invariant-loop-place
invariant-loop-place l =
    record {
      left : l.at < l.place → digits l.rest ≡ take (l.place - l.at) (digits l.n);
      put : placed l.at (take (l.place - l.at) (digits l.n)) l.buf ≡ placed l.at (digits l.n) l.initial.buf;
    }
