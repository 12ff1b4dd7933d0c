-- `material` reads the material of cell p. Assumes nothing.
use mathlib.Core.Path.{◌∙◌, sym}
use native.Mathlib.Omega.{arith}
use Rattle.words.specs.Records.{part}
use Rattle.records.specs.Layout.{record_size}
use Rattle.records.proofs.Places.{record_long, material_at_lem}
use Rattle.records.proofs.reading.material.Goals as goal

pub returns : goal.returns
returns c =
    let a = c.args in
    c.word.ensures
    ∙ sym (material_at_lem a.d (part (record_size a.d) a.p a.table.now)
    (record_long a.d a.s a.p a.table.now (omega arith) (cc)))
