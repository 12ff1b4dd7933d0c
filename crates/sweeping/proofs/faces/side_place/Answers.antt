-- The record of the pair's cell, and its position there. Assumes nothing.
use Rattle.std.proofs.Common.{◌≡◌, ℕ, suc, ◌*◌, ap, ◌∙◌, arith}
use Rattle.records.specs.Layout.{record_size}
use Rattle.prism.specs.Sides.{side_cell, side_position}
use Rattle.prism.proofs.SideLaws.{side_bounds}
use Rattle.sweeping.specs.declared.sides.SidePair.{SidePair}
use Rattle.sweeping.proofs.faces.side_place.Goals as goal
use Rattle.sweeping.proofs.faces.side_place.Goals.{After-pair_at-x}

cell : (c : After-pair_at-x) → c.pair_at-x.result.cell ≡ side_cell c.args.a c.args.l
cell c = ap (λ (x : SidePair). x.cell) c.pair_at-x.ensures

position : (c : After-pair_at-x) →
    c.pair_at-x.result.position ≡ side_position c.args.d c.args.a c.args.l
position c = ap (λ (x : SidePair). x.position) c.pair_at-x.ensures

pub record_place-requires : goal.record_place-requires
record_place-requires c =
    let a = c.args in
    (c.requires.0, omega (arith, cell c, (side_bounds a.d a.a a.l c.requires.1 c.requires.2).cell))

pub returns : goal.returns
returns c =
    let here : c.record_place.result ≡ side_cell c.args.a c.args.l * record_size (suc c.args.d) =
    c.record_place.ensures.place ∙ ap (λ (n : ℕ). n * record_size (suc c.args.d)) (cell (goal.at.returns c).After-pair_at-x) in
    omega (arith, here, position (goal.at.returns c).After-pair_at-x, c.first_wing.ensures)
