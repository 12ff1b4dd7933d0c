-- `stages::swept_key` meets its contract: the next stage is lent the front of the buffer, which is what sweep wrote. Assumes nothing.
use mathlib.Core.Path.{◌≡◌, sym, ap, ap₂, ◌∙◌}
use mathlib.Core.List.{List}
use Prim.Native.Nat.{ℕ, ◌+◌, ◌*◌, ◌≤◌}
use native.Mathlib.Nat.{mul-le-mul}
use native.Mathlib.Numerals.{add-one}
use native.Mathlib.Omega.{arith}
use lib.ListN.{length, take}
use lib.Seq.{length-take-le}
use Rattle.std.proofs.lemmas.Result.{err_from_is_err_and}
use Rattle.rules.specs.Calls.{Outcome, accepted}
use Rattle.rules.specs.Numbers.{number_of}
use Rattle.sweep.specs.Sweep.{SweepInput, sweep_outcome, swept_words, sweep_input}
use Rattle.rules.proofs.InLimits.{SweepLimits}
use Rattle.page.specs.Key.{word_room}
use Rattle.page.specs.Inner.Stages.{counted, page_after, moved_key}
use Rattle.page.proofs.Staged.{swept_front, swept_limits, swept-refused, swept-accepted}
use Rattle.page.proofs.stages.swept_key.Goals as goal
use Rattle.page.proofs.stages.swept_key.Goals.{After-sweep, In_ok-m}

abbrev told : After-sweep → SweepInput
told c = let a = c.args in sweep_input a.header.d a.header.v a.header.s a.header.h a.table.now word_room

abbrev buffer : In_ok-m → List ℕ
buffer c = c.sweep.new.out

ok : (c : In_ok-m) → sweep_outcome (told (goal.at.In_ok-m c).After-sweep) ≡ accepted c.in_ok-m.m
ok c = sym c.in_ok-m.ensures.answer

front : (c : In_ok-m) → (c.in_ok-m.m ≤ length (buffer c)) ×
    (take c.in_ok-m.m (buffer c) ≡ swept_words (told (goal.at.In_ok-m c).After-sweep))
front c =
    let i = told (goal.at.In_ok-m c).After-sweep in
    swept_front i.d i.v i.s i.h i.table word_room c.in_ok-m.m (ok c) _ (buffer c) c.sweep.ensures.buffer

limits : (c : In_ok-m) → SweepLimits (told (goal.at.In_ok-m c).After-sweep).d (told (goal.at.In_ok-m c).After-sweep).v
    (told (goal.at.In_ok-m c).After-sweep).s (told (goal.at.In_ok-m c).After-sweep).h
limits c = let i = told (goal.at.In_ok-m c).After-sweep in swept_limits i.d i.v i.s i.h i.table word_room c.in_ok-m.m (ok c)

few : (c : In_ok-m) →
    ((told (goal.at.In_ok-m c).After-sweep).s * ((told (goal.at.In_ok-m c).After-sweep).d + 1) ≤ 28672) ×
    ((told (goal.at.In_ok-m c).After-sweep).h *
    ((told (goal.at.In_ok-m c).After-sweep).s * ((told (goal.at.In_ok-m c).After-sweep).d + 1)) ≤ 1835008)
few c =
    let i = told (goal.at.In_ok-m c).After-sweep in
    let l = limits c in
    let one = mul-le-mul {n₁ = i.s} {m₁ = i.d + 1} {n₂ = 4096} {m₂ = 7} l.cells (omega (arith, l.dimension)) in
    (one, mul-le-mul {n₁ = i.h} {m₁ = i.s * (i.d + 1)} {n₂ = 64} {m₂ = 28672} l.steps one)

pub overflow_add-cells : goal.overflow_add-cells
overflow_add-cells c = omega (arith, (limits (goal.at.overflow_add-cells c).In_ok-m).dimension)

pub overflow_mul-cells : goal.overflow_mul-cells
overflow_mul-cells c = omega (arith, (few (goal.at.overflow_mul-cells c).In_ok-m).0)

pub overflow_mul-cells-2 : goal.overflow_mul-cells-2
overflow_mul-cells-2 c = omega (arith, (few (goal.at.overflow_mul-cells-2 c).In_ok-m).1)

pub overflow_add-over : goal.overflow_add-over
overflow_add-over c = omega (arith, (limits (goal.at.overflow_add-over c).In_ok-m).dimension)

pub slice_bounds-swept-end : goal.slice_bounds-swept-end
slice_bounds-swept-end c = (front (goal.at.slice_bounds-swept-end c).In_ok-m).0

pub slice_bounds-moved_key-end : goal.slice_bounds-moved_key-end
slice_bounds-moved_key-end c = sym
    (length-take-le _ (buffer (goal.at.slice_bounds-moved_key-end c).In_ok-m) (front (goal.at.slice_bounds-moved_key-end c).In_ok-m).0)

pub returns : goal.returns
returns c =
    let a = c.args in
    let x = a.header in
    let page = a.page.now in
    let stage =
    ap₂ {C = Outcome (List ℕ)} (λ d ws. moved_key x.version d x.n x.v (x.h * (x.s * d)) x.h x.step ws a.points.now (length page))
    (add-one a.header.d) (front (goal.at.returns c).In_ok-m).1
    ∙ sym (swept-accepted a.header.version a.header.d a.header.n a.header.v a.header.s a.header.h a.header.step a.table.now a.points.now (length page)
    c.in_ok-m.m (ok (goal.at.returns c).In_ok-m)) in
    record {
      answer = c.moved_key.ensures.answer ∙ ap counted stage;
      page = c.moved_key.ensures.page ∙ ap (λ o. page_after o page) stage;
    }

pub returns-in_err-m : goal.returns-in_err-m
returns-in_err-m c =
    let a = c.args in
    let p = err_from_is_err_and c.from_residual.result c.from_residual.ensures.1 in
    let page = a.page.now in
    let stage =
    sym (swept-refused a.header.version a.header.d a.header.n a.header.v a.header.s a.header.h a.header.step a.table.now
    a.points.now (length page) (number_of c.in_err-m.field-0.0)
    (sym c.in_err-m.ensures.answer)) in
    record {
      answer = rw (p.1, p.2) (ap counted stage);
      page = ap (λ o. page_after o page) stage;
    }
