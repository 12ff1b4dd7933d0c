-- `wing` reads wing a of cell p. Assumes nothing.
use mathlib.Core.Path.{◌∙◌, ap, sym}
use Prim.Native.Nat.{◌+◌}
use native.Mathlib.Omega.{arith}
use lib.ListN.{get_or}
use Rattle.words.specs.Records.{part}
use Rattle.records.specs.Layout.{record_size, wing_place}
use Rattle.records.proofs.Places.{record_long, wing_at_lem}
use Rattle.records.proofs.reading.wing.Goals as goal

pub returns : goal.returns
returns c =
    let a = c.args in
    c.word.ensures
    ∙ ap (λ i. get_or (part (record_size a.d) a.p a.table.now) i 0) {x = c.first_wing.result + a.a} {y = wing_place a.d a.a}
    (omega (arith, c.first_wing.ensures))
    ∙ sym (wing_at_lem a.d (part (record_size a.d) a.p a.table.now)
    (record_long a.d a.s a.p a.table.now (omega arith) (cc)) a.a (omega arith))
