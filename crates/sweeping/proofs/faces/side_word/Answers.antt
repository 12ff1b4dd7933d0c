-- `side_word` is `side_word`: empty, or the first cell across and the side's cell over it. Assumes nothing.
use Rattle.std.proofs.Common.{◌≡◌, ℕ, ◌+◌, refl, ap, ap₂, eq-eqb, ne_eqb}
use Rattle.sweeping.specs.Inner.Across.{side_word}
use Rattle.sweeping.proofs.faces.side_word.Goals as goal
use Rattle.sweeping.proofs.faces.side_word.Goals.{After-pair_at}

-- the word where a cell is across
full : (c : After-pair_at) → let a = c.args in
    c.from.result + c.pair_at.result.cell ≡ side_word a.first a.back a.l
full c =
    rw (ne_eqb _ _ c.if-first-eq-EMPTY.false) (ap₂ (λ (f g : ℕ). f + g) c.from.ensures (ap (λ x. x.cell) c.pair_at.ensures))

pub returns-then-first-eq-EMPTY : goal.returns-then-first-eq-EMPTY
returns-then-first-eq-EMPTY c = rw (eq-eqb _ _ c.if-first-eq-EMPTY.true) refl

pub pair_at-requires : goal.pair_at-requires
pair_at-requires c = (c.requires.0, c.requires.1, c.requires.2)

pub returns : goal.returns
returns c = full (goal.at.returns c).After-pair_at
