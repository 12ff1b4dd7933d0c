-- `face_writer` writes its word and both slices of numbers, one after another. Assumes nothing.
use native.Mathlib.Omega.{arith}
use Rattle.printing.proofs.Chain.{goes_on}
use Rattle.printing.proofs.lines.face_writer.Goals as goal

pub numbers-requires : goal.numbers-requires
numbers-requires c = omega (arith, goes_on _ _ _ c.begin.ensures (omega arith))

pub numbers-w-requires : goal.numbers-w-requires
numbers-w-requires c =
    let word = goes_on _ _ _ c.begin.ensures (omega arith) in
    omega (arith, word, goes_on _ _ _ c.numbers.ensures (omega (arith, word)))
