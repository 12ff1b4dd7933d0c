-- The words of the sweep, or more for points: a table has at most three eighths of them. Assumes nothing.
use mathlib.Core.Path.{◌≡◌}
use Prim.Native.Nat.{suc, ◌*◌, ◌≤◌}
use native.Mathlib.Nat.{mul-le-mul_right, one-mul}
use native.Mathlib.Omega.{arith}
use Rattle.records.specs.Layout.{table_length}
use Rattle.prism.specs.Swept.{swept_cells}
use Rattle.winged.proofs.Inward.{point-words, solid-words}
use Rattle.winged.proofs.host.sweep_size.Goals as goal

pub overflow_mul-n : goal.overflow_mul-n
overflow_mul-n c =
    let a = c.args in
    omega (arith, c.requires.2, one-mul (a.s * suc a.d), mul-le-mul_right {m = 1} {n = a.h} (a.s * suc a.d) c.requires.1)

pub returns-then-d-eq0 : goal.returns-then-d-eq0
returns-then-d-eq0 c =
    let a = c.args in
    let point : a.d ≡ 0 = c.if-d-eq0.true in
    let table = point-words a.d a.s a.h c.requires.1 in
    let words : table_length (suc a.d) (swept_cells a.d a.s a.h) ≤ swept_cells a.d a.s a.h * 24 = rw point (omega arith) in
    (omega (arith, words), omega (arith, table))

pub returns : goal.returns
returns c =
    let a = c.args in
    let is = c.table_words.ensures in
    (omega (arith, is), omega (arith, is, solid-words a.d a.s a.h c.requires.1 (omega (arith, c.if-d-eq0.false))))
