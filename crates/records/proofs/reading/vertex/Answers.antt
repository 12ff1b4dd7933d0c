-- `vertex` reads vertex k of cell p. Assumes nothing.
use mathlib.Core.Path.{◌∙◌, sym}
use native.Mathlib.Omega.{arith}
use Rattle.words.specs.Records.{part}
use Rattle.records.specs.Layout.{record_size}
use Rattle.records.proofs.Places.{record_long, vertex_at}
use Rattle.records.proofs.reading.vertex.Goals as goal

pub returns : goal.returns
returns c =
    let a = c.args in
    c.word.ensures
    ∙ sym (vertex_at a.d (part (record_size a.d) a.p a.table.now)
    (record_long a.d a.s a.p a.table.now (omega arith) (cc)) a.k (omega arith))
