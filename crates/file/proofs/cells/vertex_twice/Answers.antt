-- The goals that the search leaves. Assumes nothing.
use mathlib.Core.Path.{◌≡◌, refl, ◌∙◌}
use Prim.Native.Nat.{◌+◌}
use native.Mathlib.Omega.{arith}
use lib.ListN.{get_or}
use Rattle.words.proofs.Loops.{any_goes, any_stops, any_ends}
use Rattle.simplex.specs.Cell.{no_cell}
use Rattle.solids.specs.Accept.{repeats}
use Rattle.file.specs.File.{file_cells}
use Rattle.file.proofs.Parts.{cells-length, row_at_lem}
use Rattle.file.proofs.cells.vertex_twice.Goals as goal
use Rattle.file.proofs.cells.vertex_twice.Goals.{After-repeated}

-- the vertices of cell p are tested
here : (c : After-repeated) → repeats (get_or (file_cells c.args.b.now) c.loop-p.p no_cell).row ≡ c.repeated.result
here c =
    let m = c.dimension-m.result + 1 in
    cc (row_at_lem c.args.b.now c.requires c.loop-p.p (omega arith) m (omega arith) _ c.vertices_at-at.ensures.0)

pub returns-then-repeated : goal.returns-then-repeated
returns-then-repeated c =
    let b = c.args.b.now in
    any_stops (λ x. repeats x.row) no_cell (file_cells b) _ c.loop-p.p (cells-length b) (omega arith) _ refl _
    (here (goal.at.returns-then-repeated c).After-repeated ∙ c.if-repeated.true)
    c.loop-p.invariant

pub loop-p-preserved : goal.loop-p-preserved
loop-p-preserved c =
    let b = c.args.b.now in
    any_goes (λ x. repeats x.row) no_cell (file_cells b) _ c.loop-p.p (cells-length b) (omega arith) _ refl _
    (here (goal.at.loop-p-preserved c).After-repeated ∙ c.if-repeated.false)
    c.loop-p.invariant

pub returns : goal.returns
returns c =
    let b = c.args.b.now in
    any_ends (λ x. repeats x.row) no_cell (file_cells b) _ c.loop-p.p (cells-length b) (omega arith) _ c.loop-p.invariant
