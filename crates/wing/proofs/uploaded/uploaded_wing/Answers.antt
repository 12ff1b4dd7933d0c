-- The wing stands at the place that the uploaded vertex has in ascending order. Assumes nothing.
use mathlib.Core.Path.{◌≡◌, ap, ◌∙◌}
use Prim.Native.Nat.{suc, ◌+◌, ◌*◌, ◌≤◌}
use native.Mathlib.Numerals.{add-one}
use native.Mathlib.Omega.{arith}
use lib.ListN.{length, get_or}
use Rattle.records.specs.Layout.{cell_in, vertex_place}
use Rattle.records.specs.Inner.Inside.{wing_in}
use Rattle.simplex.specs.Order.{below}
use Rattle.wing.proofs.UploadedRows.{rank_is, rank_within, words-within}
use Rattle.wing.proofs.uploaded.uploaded_wing.Goals as goal
use Rattle.wing.proofs.uploaded.uploaded_wing.Goals.{After-list_size, After-rank-place}

within : (c : After-list_size) → let a = c.args in
    (a.p * c.list_size.result + vertex_place 0 + suc a.d ≤ length a.cells.now) × (a.p * c.list_size.result ≤ 4096 * 10)
within c =
    let a = c.args in
    words-within a.d a.s a.p c.list_size.result a.cells.now c.list_size.ensures
    c.requires.0.dimension c.requires.2 c.requires.0.number c.requires.1

-- the place is that of the uploaded vertex
place : (c : After-rank-place) → let a = c.args in
    c.rank-place.result ≡ below (get_or (cell_in a.d a.cells.now a.p).row a.j 0) (cell_in a.d a.cells.now a.p).row
place c =
    c.rank-place.ensures
    ∙ rank_is _ _ c.args.p c.args.cells.now c.requires.0.number c.requires.1 c.args.j c.requires.3 _ _
    c.list_size.ensures (add-one _)

pub overflow_mul-at : goal.overflow_mul-at
overflow_mul-at c = omega (arith, (within c).1)

pub overflow_add-at : goal.overflow_add-at
overflow_add-at c = omega (arith, (within c).1)

pub overflow_add-at-2 : goal.overflow_add-at-2
overflow_add-at-2 c = omega (arith, (within c).0, (within c).1)

pub offset_bounds-cells-at : goal.offset_bounds-cells-at
offset_bounds-cells-at c = omega (arith, (within c).0, (within c).1)

pub bounds-cells-at : goal.bounds-cells-at
bounds-cells-at c = omega (arith, (within (goal.at.bounds-cells-at c).After-list_size).0)

pub rank-place-requires : goal.rank-place-requires
rank-place-requires c = (omega (arith, c.requires.0.dimension), omega (arith, (within (goal.at.rank-place-requires c).After-list_size).0))

pub wing-requires : goal.wing-requires
wing-requires c =
    (c.requires.0, omega (arith, place c, rank_within _ _ c.args.p c.args.cells.now c.requires.0.number c.requires.1 c.args.j c.requires.3))

pub returns : goal.returns
returns c =
    let a = c.args in
    c.wing.ensures ∙ ap (wing_in a.d a.table.now a.p) (place (goal.at.returns c).After-rank-place)
