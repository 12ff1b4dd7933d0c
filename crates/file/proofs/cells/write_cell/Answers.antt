-- `write_cell` stores the sign word, the material and then the vertices. Assumes nothing.
use mathlib.Core.Path.{◌≡◌, ap, ap₂, ◌∙◌}
use mathlib.Core.List.{List, ◌∷◌}
use Prim.Native.Nat.{ℕ, ◌+◌}
use native.Mathlib.Omega.{arith}
use lib.ListN.{set, length, length-set}
use Rattle.words.specs.Bytes.{words_from}
use Rattle.words.specs.Inner.Placed.{placed}
use Rattle.file.specs.File.{cell_head}
use Rattle.file.proofs.Parts.{head_some}
use Rattle.file.proofs.Stores.{cell-placed}
use Rattle.file.proofs.cells.write_cell.Goals as goal
use Rattle.file.proofs.cells.write_cell.Goals.{After-material}

-- the lent words with the first two written
abbrev twice : After-material → List ℕ
twice c =
    set (set c.args.out.now c.args.to c.sign_word.result) (c.args.to + 1) c.material.result

twice-long : (c : After-material) → length (twice c) ≡ length c.args.out.now
twice-long c =
    length-set (set c.args.out.now c.args.to c.sign_word.result) (c.args.to + 1) c.material.result
    ∙ length-set c.args.out.now c.args.to c.sign_word.result

pub bounds-b-at : goal.bounds-b-at
bounds-b-at c = omega (arith, c.requires.0, head_some c.args.version)

pub bounds-out-to-2 : goal.bounds-out-to-2
bounds-out-to-2 c =
    omega (arith, c.requires.1, length-set c.args.out.now c.args.to c.sign_word.result)

pub copy16-requires : goal.copy16-requires
copy16-requires c =
    (omega (arith, c.requires.0, c.head.ensures.0), omega (arith, c.requires.1, twice-long (goal.at.copy16-requires c).After-material))

pub shape_of-out : goal.shape_of-out
shape_of-out c =
    c.copy16.auto.out ∙ twice-long (goal.at.shape_of-out c).After-material

pub returns : goal.returns
returns c =
    let a = c.args in
    let b = a.b.now in
    cell-placed a.to c.sign_word.result c.material.result (words_from b (a.at + c.head.result) a.m) a.out.now _
    (omega (arith, c.requires.1)) c.copy16.ensures
    ∙ ap (λ xs. placed a.to xs a.out.now)
    (ap {B = List ℕ} (λ n. c.sign_word.result ∷ c.material.result ∷ words_from b (a.at + n) a.m) c.head.ensures.0
    ∙ ap₂ {C = List ℕ} (λ x y. x ∷ y ∷ words_from b (a.at + cell_head a.version) a.m) c.sign_word.ensures c.material.ensures)
