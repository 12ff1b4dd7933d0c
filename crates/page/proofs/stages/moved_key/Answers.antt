-- `stages::moved_key` meets its contract: list is lent the front of the buffer, which is what move wrote. Assumes nothing.
use mathlib.Core.Path.{◌≡◌, sym, ap, ap₂, ◌∙◌}
use mathlib.Core.List.{List}
use Prim.Native.Nat.{ℕ, ◌+◌, ◌*◌, ◌≤◌}
use native.Mathlib.Nat.{mul-le-mul}
use native.Mathlib.Numerals.{add-one}
use native.Mathlib.Omega.{arith}
use lib.Ieee.{Float}
use lib.ListN.{length, take}
use lib.Seq.{length-take-le}
use Rattle.std.proofs.lemmas.Result.{err_from_is_err_and}
use Rattle.rules.specs.Calls.{accepted}
use Rattle.rules.specs.Limits.{swept_vertices}
use Rattle.rules.specs.Numbers.{number_of}
use Rattle.motion.specs.Move.{MoveInput, move_input, moved_levels, move_outcome}
use Rattle.list.specs.List.{list_input, list_outcome, list_buffer}
use Rattle.page.specs.Key.{float_room}
use Rattle.page.specs.Inner.Stages.{counted, page_after}
use Rattle.page.proofs.Staged.{moved_limits, moved-refused, moved-accepted, list_counted, list_left}
use Rattle.motion.proofs.Lengths.{moved_front}
use Rattle.page.proofs.stages.moved_key.Goals as goal
use Rattle.page.proofs.stages.moved_key.Goals.{After-move_points, In_ok-m}

abbrev told : After-move_points → MoveInput
told c = let a = c.args in move_input a.header.n a.header.v a.header.h a.header.step a.points.now float_room

abbrev buffer : In_ok-m → List Float
buffer c = c.move_points.new.out

ok : (c : In_ok-m) → move_outcome (told (goal.at.In_ok-m c).After-move_points) ≡ accepted c.in_ok-m.m
ok c = sym c.in_ok-m.ensures.answer

front : (c : In_ok-m) → (c.in_ok-m.m ≤ length (buffer c)) ×
    (take c.in_ok-m.m (buffer c) ≡ moved_levels (told (goal.at.In_ok-m c).After-move_points))
front c = moved_front (told (goal.at.In_ok-m c).After-move_points) _ (buffer c) c.in_ok-m.m c.move_points.ensures.buffer (ok c)

few : (c : In_ok-m) → ((told (goal.at.In_ok-m c).After-move_points).h ≤ 64) ×
    (((told (goal.at.In_ok-m c).After-move_points).h + 1) * (told (goal.at.In_ok-m c).After-move_points).v ≤ 266240)
few c =
    let i = told (goal.at.In_ok-m c).After-move_points in
    let l = moved_limits i c.in_ok-m.m (ok c) in
    (l.2, mul-le-mul {n₁ = i.h + 1} {m₁ = i.v} {n₂ = 65} {m₂ = 4096} (omega (arith, l.2)) l.1)

pub overflow_add-h : goal.overflow_add-h
overflow_add-h c = omega (arith, (few (goal.at.overflow_add-h c).In_ok-m).0)

pub overflow_mul-h : goal.overflow_mul-h
overflow_mul-h c = omega (arith, (few (goal.at.overflow_mul-h c).In_ok-m).1)

pub slice_bounds-moved-end : goal.slice_bounds-moved-end
slice_bounds-moved-end c = (front (goal.at.slice_bounds-moved-end c).In_ok-m).0

pub slice_bounds-list-end : goal.slice_bounds-list-end
slice_bounds-list-end c = sym
    (length-take-le _ (buffer (goal.at.slice_bounds-list-end c).In_ok-m) (front (goal.at.slice_bounds-list-end c).In_ok-m).0)

pub returns : goal.returns
returns c =
    let a = c.args in
    let page = a.page.now in
    let vertices = ap (λ k. k * a.header.v) (add-one a.header.h) in
    let i = list_input a.header.version a.header.d a.header.n (swept_vertices a.header.v a.header.h) a.header.s a.table.now
    (moved_levels (told (goal.at.returns c).After-move_points)) (length page) in
    let stage = sym
    (moved-accepted a.header.version a.header.d a.header.n a.header.v a.header.s a.header.h a.header.step a.table.now a.points.now (length page)
    c.in_ok-m.m (ok (goal.at.returns c).In_ok-m)) in record {
      answer = c.list.ensures.answer
          ∙ ap₂ (λ v ps. list_outcome (list_input a.header.version a.header.d a.header.n v a.header.s a.table.now ps (length page))) vertices
          (front (goal.at.returns c).In_ok-m).1
          ∙ list_counted i
          ∙ ap counted stage;
      page = c.list.ensures.buffer
          ∙ ap₂ {C = List ℕ}
          (λ v ps. list_buffer (list_input a.header.version a.header.d a.header.n v a.header.s a.table.now ps (length page)) page) vertices
          (front (goal.at.returns c).In_ok-m).1
          ∙ list_left i page
          ∙ ap (λ o. page_after o page) stage;
    }

pub returns-in_err-m : goal.returns-in_err-m
returns-in_err-m c =
    let a = c.args in
    let p = err_from_is_err_and c.from_residual.result c.from_residual.ensures.1 in
    let page = a.page.now in
    let stage =
    sym (moved-refused a.header.version a.header.d a.header.n a.header.v a.header.s a.header.h a.header.step a.table.now
    a.points.now (length page) (number_of c.in_err-m.field-0.0)
    (sym c.in_err-m.ensures.answer)) in
    record {
      answer = rw (p.1, p.2) (ap counted stage);
      page = ap (λ o. page_after o page) stage;
    }
