-- Cell p is read, sorted and stored: the law `gathered`. Assumes nothing.
use mathlib.Core.Path.{refl}
use Prim.Native.Nat.{◌+◌, ◌*◌}
use native.Mathlib.Numerals.{add-one}
use native.Mathlib.Omega.{arith}
use Rattle.records.specs.Layout.{vertex_place}
use Rattle.tables.proofs.Stored.{gathered}
use Rattle.tables.proofs.gather.gather_cell.Goals as goal

pub returns : goal.returns
returns c =
    let a = c.args in
    gathered _ _ _ _ _ _ _ _ _ _ (a.d + 1) (a.p * a.size + vertex_place 0) _ _
    c.requires.d_bound.0 c.requires.d_bound.1 c.requires.d_bound.3 c.requires.rows_len.0 c.requires.rows_len.1 (add-one _) refl (omega arith)
    c.read_row.ensures.1
    c.sort_row-sorted.ensures.row c.sort_row-sorted.ensures.parity c.product.ensures c.store_row.ensures refl
