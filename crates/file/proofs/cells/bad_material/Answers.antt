-- The goals that the search leaves. Assumes nothing.
use mathlib.Core.Path.{◌≡◌, refl, sym, ap, ap₂, ◌∙◌}
use native.Mathlib.Omega.{arith}
use lib.Dec.{ltb}
use lib.ListN.{get_or}
use borrow.Author.Tests.{lt-ltb, le-ltb}
use Rattle.words.proofs.Loops.{any_goes, any_stops, any_ends}
use Rattle.rules.specs.Limits.{max_material}
use Rattle.simplex.specs.Cell.{no_cell}
use Rattle.file.specs.File.{cell_head, file_cells}
use Rattle.file.specs.Inner.Places.{material_from}
use Rattle.file.proofs.Parts.{cells-length, file_cell_lem, material_at_lem}
use Rattle.file.proofs.cells.bad_material.Goals as goal
use Rattle.file.proofs.cells.bad_material.Goals.{After-material}

-- the material of cell p is tested
here : (c : After-material) → ltb max_material (get_or (file_cells c.args.b.now) c.loop-p.p no_cell).material ≡ ltb max_material c.material.result
here c =
    let b = c.args.b.now in
    ap (λ x. ltb max_material x.material) (file_cell_lem b c.requires c.loop-p.p (omega arith))
    ∙ ap (ltb max_material)
    (material_at_lem b c.loop-p.p ∙ ap₂ (λ k i. material_from k b i) (sym c.version-version.ensures.0) (sym c.cell_at-at.ensures.0)
    ∙ sym c.material.ensures)

pub material-requires : goal.material-requires
material-requires c =
    omega (arith, c.cell_at-at.ensures.1, ap cell_head c.version-version.ensures.0)

pub returns-then-material-gt-MAX_MATERIAL : goal.returns-then-material-gt-MAX_MATERIAL
returns-then-material-gt-MAX_MATERIAL c =
    let b = c.args.b.now in
    any_stops (λ x. ltb max_material x.material) no_cell (file_cells b) _ c.loop-p.p (cells-length b) (omega arith) _ refl _
    (here (goal.at.returns-then-material-gt-MAX_MATERIAL c).After-material ∙ lt-ltb _ _ c.if-material-gt-MAX_MATERIAL.true) c.loop-p.invariant

pub loop-p-preserved : goal.loop-p-preserved
loop-p-preserved c =
    let b = c.args.b.now in
    any_goes (λ x. ltb max_material x.material) no_cell (file_cells b) _ c.loop-p.p (cells-length b) (omega arith) _ refl _
    (here (goal.at.loop-p-preserved c).After-material ∙ le-ltb _ _ c.if-material-gt-MAX_MATERIAL.false) c.loop-p.invariant

pub returns : goal.returns
returns c =
    let b = c.args.b.now in
    any_ends (λ x. ltb max_material x.material) no_cell (file_cells b) _ c.loop-p.p (cells-length b) (omega arith) _ c.loop-p.invariant
