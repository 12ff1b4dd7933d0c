-- The goals that the search leaves. Assumes nothing.
use mathlib.Core.Path.{◌≡◌, refl, ◌∙◌}
use Prim.Native.Nat.{◌+◌}
use native.Mathlib.Omega.{arith}
use lib.Dec.{leb}
use lib.ListN.{get_or}
use Rattle.words.specs.Records.{any_of}
use Rattle.words.proofs.Loops.{any_goes, any_stops, any_ends}
use Rattle.simplex.specs.Cell.{no_cell}
use Rattle.file.specs.File.{vertex_count_of, file_cells}
use Rattle.file.proofs.Parts.{cells-length, row_at_lem}
use Rattle.file.proofs.cells.bad_vertex.Goals as goal
use Rattle.file.proofs.cells.bad_vertex.Goals.{After-beyond}

-- the vertices of cell p are tested
here : (c : After-beyond) → let b = c.args.b.now in
    any_of (λ y. leb (vertex_count_of b) y) (get_or (file_cells b) c.loop-p.p no_cell).row ≡ c.beyond.result
here c =
    let m = c.dimension-m.result + 1 in
    cc (row_at_lem c.args.b.now c.requires c.loop-p.p (omega arith) m (omega arith) _ c.vertices_at-at.ensures.0)

pub returns-then-beyond : goal.returns-then-beyond
returns-then-beyond c =
    let b = c.args.b.now in
    any_stops (λ x. any_of (λ y. leb (vertex_count_of b) y) x.row) no_cell (file_cells b) _ c.loop-p.p (cells-length b) (omega arith) _ refl _
    (here (goal.at.returns-then-beyond c).After-beyond ∙ c.if-beyond.true) c.loop-p.invariant

pub loop-p-preserved : goal.loop-p-preserved
loop-p-preserved c =
    let b = c.args.b.now in
    any_goes (λ x. any_of (λ y. leb (vertex_count_of b) y) x.row) no_cell (file_cells b) _ c.loop-p.p (cells-length b) (omega arith) _ refl _
    (here (goal.at.loop-p-preserved c).After-beyond ∙ c.if-beyond.false) c.loop-p.invariant

pub returns : goal.returns
returns c =
    let b = c.args.b.now in
    any_ends (λ x. any_of (λ y. leb (vertex_count_of b) y) x.row) no_cell (file_cells b) _ c.loop-p.p (cells-length b) (omega arith) _
    c.loop-p.invariant
