-- `vertex_writer` writes its word, the numbers and the coordinates, one after another. Assumes nothing.
use native.Mathlib.Omega.{arith}
use Rattle.printing.proofs.Chain.{goes_on}
use Rattle.printing.proofs.lines.vertex_writer.Goals as goal

pub numbers-requires : goal.numbers-requires
numbers-requires c = grind (arith, c.requires, goes_on _ _ _ c.begin.ensures (omega arith))

pub coordinates-w-requires : goal.coordinates-w-requires
coordinates-w-requires c =
    let word = goes_on _ _ _ c.begin.ensures (omega arith) in
    grind (arith, c.requires, word, goes_on _ _ _ c.numbers.ensures (omega (arith, word)))
