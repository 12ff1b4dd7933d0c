-- The sign, the material and the wings are written in this order. Assumes nothing.
use Prim.Native.Nat.{◌+◌}
use native.Mathlib.Omega.{arith}
use lib.ListN.{set, length-set}
use Rattle.records.specs.Layout.{material_place}
use Rattle.gathering.proofs.Blanks.{around}
use Rattle.gathering.proofs.blank.surround.Goals as goal

pub bounds-table-at-2 : goal.bounds-table-at-2
bounds-table-at-2 c =
    let a = (c.args) in
    omega (arith, length-set a.table.now a.at c.sign_word.result)

pub clear-requires : goal.clear-requires
clear-requires c =
    let a = c.args in
    let one = length-set a.table.now a.at c.sign_word.result in
    let two = length-set (set a.table.now a.at c.sign_word.result) (a.at + material_place) a.material in
    (omega arith, omega (arith, one, two, c.requires.1, c.first_wing.ensures))

pub returns : goal.returns
returns c =
    let a = c.args in
    around a.d a.sign a.material a.at a.table.now c.requires.1 _ _ _ c.sign_word.ensures c.first_wing.ensures
    c.clear.ensures
