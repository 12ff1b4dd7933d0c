-- `wing_table` answers `wing_outcome` and leaves `wing_buffer`: each return is a rule's, or what becomes of the list. Assumes nothing.
use mathlib.Core.Path.{◌≡◌, refl, sym, ap, ◌∙◌}
use mathlib.Core.Bool.{false, not}
use Prim.Native.Nat.{◌*◌}
use lib.Dec.{eqb}
use lib.ListN.{length}
use Rattle.rules.specs.Limits.{max_dimension}
use Rattle.rules.specs.Shapes.{shape_ok}
use Rattle.rules.proofs.Tests.{differs, agrees}
use Rattle.rules.proofs.InLimits.{Limits, limits_are}
use Rattle.records.specs.Layout.{list_size}
use Rattle.wing.specs.Wing.{wing_rules}
use Rattle.wing.proofs.Order.{refuses, passes}
use Rattle.wing.proofs.wing_table.Goals as goal
use Rattle.wing.proofs.wing_table.Goals.{After-within, Else-cells-list_words, Else-not-within}

-- row 2 is what the code tests
two : (c : After-within) → let a = c.args in not (shape_ok max_dimension a.d a.v a.s) ≡ not c.within.result
two c = ap not (sym c.within.ensures)

two-passes : (c : Else-not-within) → let a = c.args in not (shape_ok max_dimension a.d a.v a.s) ≡ false
two-passes c = two (goal.at.Else-not-within c).After-within ∙ ap not c.if-not-within.false

three-passes : (c : Else-cells-list_words) → let a = c.args in not (eqb (length a.cells.now) (a.s * list_size a.d)) ≡ false
three-passes c = agrees _ _ (c.if-cells-list_words.false ∙ c.list_words.ensures)

limits : (c : Else-not-within) → let a = c.args in Limits max_dimension a.d a.v a.s
limits c = limits_are _ _ _ _ (two-passes c)

pub returns-then-not-within : goal.returns-then-not-within
unfolding wing_rules
returns-then-not-within c =
    let r = refuses _ _ 2 (rw (two (goal.at.returns-then-not-within c).After-within ∙ ap not c.if-not-within.true) refl) in
    record { answer = r.0; table = r.1 }

pub list_words-requires : goal.list_words-requires
list_words-requires c = let l = limits c in (l.dimension, l.cells)

pub returns-then-cells-list_words : goal.returns-then-cells-list_words
unfolding wing_rules
returns-then-cells-list_words c =
    let two = two-passes (goal.at.returns-then-cells-list_words c).Else-not-within in
    let three = differs _ _ (λ e. c.if-cells-list_words.true (e ∙ sym c.list_words.ensures)) in
    let r = refuses _ _ 3 (rw (two, three) refl) in
    record { answer = r.0; table = r.1 }

pub write_table-requires : goal.write_table-requires
write_table-requires c =
    let l = limits (goal.at.write_table-requires c).Else-not-within in
    (l.dimension, l.cells, c.if-cells-list_words.false ∙ c.list_words.ensures)

pub returns : goal.returns
returns c =
    let two = two-passes (goal.at.returns c).Else-not-within in
    let three = three-passes (goal.at.returns c).Else-cells-list_words in
    let r = passes _ _ _ _ _ _ two three _ _ c.write_table.ensures.answer c.write_table.ensures.table in
    record { answer = r.0; table = r.1 }
