-- The keys are classed digit by digit, then linked by their classes. The loop's invariant: they are classed by the digits passed.
use mathlib.Core.Path.{◌≡◌}
use lib.ListN.{length}
use Rattle.matching.specs.Inner.Matching.{Behind}
use Rattle.matching.specs.Inner.Classes.{key_digit, Classed}
use Rattle.matching.proofs.classes.by_classes.Given as goal

abbrev pub invariant-loop-j : goal.invariant-loop-j
invariant-loop-j l =
    Classed l.n (key_digit l.rows l.k l.w l.first) l.class l.j × (length l.prev ≡ 32768) × Behind l.n l.prev l.initial.prev
