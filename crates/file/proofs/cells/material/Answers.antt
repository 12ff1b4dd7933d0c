-- `material` reads the material of a cell in version 2, and answers 0 in version 1. Assumes nothing.
use mathlib.Core.Path.{◌≡◌, sym, ap, ◌∙◌}
use mathlib.Core.Bool.{cond}
use Prim.Native.Nat.{◌+◌}
use native.Mathlib.Omega.{arith}
use Rattle.words.specs.Bytes.{word16}
use Rattle.file.specs.File.{cell_head}
use Rattle.file.proofs.cells.material.Goals as goal

pub word16-requires : goal.word16-requires
word16-requires c =
    let head : cell_head c.args.version ≡ 3 = ap (λ t. cond t 3 1) (sym c.with_materials.ensures ∙ c.if-with_materials.true) in
    omega (arith, c.requires, head)

pub returns-then-with_materials : goal.returns-then-with_materials
returns-then-with_materials c =
    let a = c.args in
    c.word16.ensures
    ∙ sym (ap (λ t. cond t (word16 a.b.now (a.at + 1)) 0) (sym c.with_materials.ensures ∙ c.if-with_materials.true))

pub returns : goal.returns
returns c =
    let a = c.args in
    sym (ap (λ t. cond t (word16 a.b.now (a.at + 1)) 0) (sym c.with_materials.ensures ∙ c.if-with_materials.false))
