-- `list_bytes` meets its contract: each refusal is its row's, and the rest is list's. Assumes nothing.
use mathlib.Core.Path.{◌≡◌, sym, ap, ◌∙◌}
use mathlib.Core.Bool.{false, not}
use Rattle.words.specs.Records.{all_of}
use Rattle.points.specs.Step.{in_range}
use Rattle.list.specs.List.{numbers_fit}
use Rattle.hosting.specs.Floats.{floats64}
use Rattle.hosting.proofs.ListRows.{lengths, list_2, list_3, list_4, list_needs, list_right, list_small}
use Rattle.hosting.proofs.lists.list_bytes.Goals as goal
use Rattle.hosting.proofs.lists.list_bytes.Goals.{Else-not-all_in_range, Else-not-lengths_fit, Else-not-numbers_fit}

-- rows 2 to 4 where they do not apply
two : (c : Else-not-numbers_fit) → let a = c.args in not (numbers_fit a.version a.d a.n a.v a.s) ≡ false
two c = ap not (sym c.numbers_fit.ensures ∙ c.if-not-numbers_fit.false)

three : (c : Else-not-lengths_fit) → let a = c.args in
    not (lengths a.version a.d a.n a.v a.s a.table.now a.points.now) ≡ false
three c = ap not (sym c.lengths_fit.ensures ∙ c.if-not-lengths_fit.false)

four : (c : Else-not-all_in_range) → not (all_of in_range (floats64 c.args.points.now)) ≡ false
four c = ap not (sym c.all_in_range.ensures ∙ c.if-not-all_in_range.false)

pub returns-then-not-numbers_fit : goal.returns-then-not-numbers_fit
returns-then-not-numbers_fit c =
    let a = c.args in
    let both = list_2 a.version a.d a.n a.v a.s a.table.now a.points.now a.text.now (ap not (sym c.numbers_fit.ensures ∙ c.if-not-numbers_fit.true))
    in
    record { answer = both.0; buffer = both.1 }

pub lengths_fit-requires : goal.lengths_fit-requires
lengths_fit-requires c = list_needs c.args.version _ _ _ _ (two c)

pub returns-then-not-lengths_fit : goal.returns-then-not-lengths_fit
returns-then-not-lengths_fit c =
    let a = c.args in
    let p = goal.at.returns-then-not-lengths_fit c in
    let both = list_3 a.version a.d a.n a.v a.s a.table.now a.points.now a.text.now (two p.Else-not-numbers_fit)
    (ap not (sym c.lengths_fit.ensures ∙ c.if-not-lengths_fit.true)) in
    record { answer = both.0; buffer = both.1 }

pub returns-then-not-all_in_range : goal.returns-then-not-all_in_range
returns-then-not-all_in_range c =
    let a = c.args in
    let p = goal.at.returns-then-not-all_in_range c in
    let both = list_4 a.version a.d a.n a.v a.s a.table.now a.points.now a.text.now (two p.Else-not-numbers_fit)
    (three p.Else-not-lengths_fit) (ap not (sym c.all_in_range.ensures ∙ c.if-not-all_in_range.true)) in
    record { answer = both.0; buffer = both.1 }

pub list_decoded-requires : goal.list_decoded-requires
list_decoded-requires c =
    let a = c.args in
    list_small a.version a.d a.n a.v a.s a.table.now a.points.now
    (two (goal.at.list_decoded-requires c).Else-not-numbers_fit) (three (goal.at.list_decoded-requires c).Else-not-lengths_fit)
    (four (goal.at.list_decoded-requires c).Else-not-all_in_range)

pub returns : goal.returns
returns c =
    let a = c.args in
    let p = goal.at.returns c in
    let both = list_right a.version a.d a.n a.v a.s a.table.now a.points.now a.text.now (two p.Else-not-numbers_fit)
    (three p.Else-not-lengths_fit) _ _ (c.list_decoded.ensures.answer, c.list_decoded.ensures.buffer) in
    record { answer = both.0; buffer = both.1 }
