-- `side_pair` answers `side_pair_of`: the pair by the closed rule, or none where there is no side. Assumes nothing.
use Rattle.std.proofs.Common.{◌≡◌, ℕ, ◌<◌, ◌≤◌, true, ◌&&◌, ltb, leb, sym, ◌∙◌, ltb-true, leb-true}
use Rattle.rules.specs.Limits.{max_source}
use Rattle.rules.proofs.Tests.{and_parts}
use Rattle.sweeping.specs.SidePairs.{has_side, side_pair_of}
use Rattle.sweeping.proofs.sides.side_pair.Goals as goal
use Rattle.sweeping.proofs.sides.side_pair.Goals.{Else-not-has_side}

-- there is a side,
there : (c : Else-not-has_side) → let a = c.args in has_side a.d a.a a.l ≡ true
there c = sym c.has_side.ensures ∙ c.if-not-has_side.false

-- which says of the numbers
inside : (d a l : ℕ) → has_side d a l ≡ true → (d ≤ max_source) × (a ≤ d) × (l < d)
inside d a l e =
    let outer = and_parts (leb d max_source) (leb a d && ltb l d) e in
    let inner = and_parts (leb a d) (ltb l d) outer.1 in
    (leb-true d max_source outer.0, leb-true a d inner.0, ltb-true l d inner.1)

pub returns-then-not-has_side : goal.returns-then-not-has_side
unfolding side_pair_of
returns-then-not-has_side c = rw (sym c.has_side.ensures ∙ c.if-not-has_side.true)

pub pair_at-requires : goal.pair_at-requires
pair_at-requires c = inside _ _ _ (there c)

pub returns : goal.returns
unfolding side_pair_of
returns c = rw (there (goal.at.returns c).Else-not-has_side) c.pair_at.ensures
