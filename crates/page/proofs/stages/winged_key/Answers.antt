-- `stages::winged_key` meets its contract: the next stage is lent the front of the buffer, which is what wing wrote. Assumes nothing.
use mathlib.Core.Path.{◌≡◌, sym, ap, ◌∙◌}
use mathlib.Core.List.{List}
use Prim.Native.Nat.{ℕ, ◌≤◌}
use lib.ListN.{length, take}
use lib.Seq.{length-take-le}
use Rattle.std.proofs.lemmas.Result.{err_from_is_err_and}
use Rattle.rules.specs.Calls.{accepted}
use Rattle.rules.specs.Numbers.{number_of}
use Rattle.solids.specs.Table.{table_of_list}
use Rattle.wing.specs.Wing.{WingInput, wing_input, wing_outcome}
use Rattle.page.specs.Key.{word_room}
use Rattle.page.specs.Inner.Stages.{counted, page_after, swept_key}
use Rattle.wing.proofs.Lengths.{winged_front}
use Rattle.page.proofs.Staged.{winged-refused, winged-accepted}
use Rattle.page.proofs.stages.winged_key.Goals as goal
use Rattle.page.proofs.stages.winged_key.Goals.{After-wing, In_ok-m}

abbrev told : After-wing → WingInput
told c = let a = c.args in wing_input a.header.d a.header.v a.header.s a.cells.now word_room word_room

abbrev buffer : In_ok-m → List ℕ
buffer c = c.wing.new.table

ok : (c : In_ok-m) → wing_outcome (told (goal.at.In_ok-m c).After-wing) ≡ accepted c.in_ok-m.m
ok c = sym c.in_ok-m.ensures.answer

front : (c : In_ok-m) → (c.in_ok-m.m ≤ length (buffer c)) ×
    (take c.in_ok-m.m (buffer c) ≡ table_of_list (told (goal.at.In_ok-m c).After-wing).list)
front c = winged_front (told (goal.at.In_ok-m c).After-wing) _ (buffer c) c.in_ok-m.m c.wing.ensures.table (ok c)

pub slice_bounds-table-end : goal.slice_bounds-table-end
slice_bounds-table-end c = (front (goal.at.slice_bounds-table-end c).In_ok-m).0

pub slice_bounds-swept_key-end : goal.slice_bounds-swept_key-end
slice_bounds-swept_key-end c = sym
    (length-take-le _ (buffer (goal.at.slice_bounds-swept_key-end c).In_ok-m) (front (goal.at.slice_bounds-swept_key-end c).In_ok-m).0)

pub returns : goal.returns
returns c =
    let a = c.args in
    let x = a.header in
    let page = a.page.now in
    let stage =
    ap (λ ws. swept_key x.version x.d x.n x.v x.s x.h x.step ws a.points.now (length page)) (front (goal.at.returns c).In_ok-m).1
    ∙ sym (winged-accepted x.version x.d x.n x.v x.s x.h x.step a.cells.now a.points.now (length page)
    c.in_ok-m.m (ok (goal.at.returns c).In_ok-m)) in
    record {
      answer = c.swept_key.ensures.answer ∙ ap counted stage;
      page = c.swept_key.ensures.page ∙ ap (λ o. page_after o page) stage;
    }

pub returns-in_err-m : goal.returns-in_err-m
returns-in_err-m c =
    let a = c.args in
    let p = err_from_is_err_and c.from_residual.result c.from_residual.ensures.1 in
    let page = a.page.now in
    let stage =
    sym (winged-refused a.header.version a.header.d a.header.n a.header.v a.header.s a.header.h a.header.step a.cells.now
    a.points.now (length page) (number_of c.in_err-m.field-0.0)
    (sym c.in_err-m.ensures.answer)) in
    record {
      answer = rw (p.1, p.2) (ap counted stage);
      page = ap (λ o. page_after o page) stage;
    }
