-- `stages::page_key` meets its contract: the first stage is lent the front of the buffers, which is what read wrote. Assumes nothing.
use mathlib.Core.Path.{◌≡◌, sym, ap, ap₂, ◌∙◌}
use mathlib.Core.List.{List}
use Prim.Native.Nat.{ℕ, ◌*◌, ◌≤◌}
use native.Mathlib.Omega.{arith}
use lib.Ieee.{Float}
use lib.ListN.{length, take}
use lib.Seq.{length-take-le}
use Rattle.std.proofs.lemmas.Result.{err_from_is_err_and}
use Rattle.rules.specs.Calls.{Outcome, accepted}
use Rattle.rules.specs.Numbers.{number_of}
use Rattle.read.specs.declared.Header.{Header}
use Rattle.file.specs.File.{file_points}
use Rattle.file.specs.Tests.{file_words}
use Rattle.read.specs.Read.{read_outcome}
use Rattle.page.specs.Key.{read_in}
use Rattle.page.specs.Inner.Stages.{counted, page_after, winged_key}
use Rattle.page.proofs.Printed.{FileFacts, file_facts, cells_front, points_front, key_long, key_refused, key_read}
use Rattle.page.proofs.stages.page_key.Goals as goal
use Rattle.page.proofs.stages.page_key.Goals.{After-list_words-words, After-read, In_ok-header}

abbrev bytes : After-read → List ℕ
bytes c = c.args.input.now

abbrev header : In_ok-header → Header
header c = c.in_ok-header.header

ok : (c : In_ok-header) → read_outcome (read_in (bytes (goal.at.In_ok-header c).After-read)) ≡ accepted (header c)
ok c = sym c.in_ok-header.ensures.answer

facts : (c : In_ok-header) → FileFacts (bytes (goal.at.In_ok-header c).After-read) (header c)
facts c = file_facts (bytes (goal.at.In_ok-header c).After-read) (header c) (ok c)

abbrev floats : In_ok-header → ℕ
floats c = (header c).v * (header c).n

abbrev cells : In_ok-header → List ℕ
cells c = c.read.new.cells

abbrev points : In_ok-header → List Float
points c = c.read.new.points

front : (c : After-list_words-words) → let words = c.list_words-words.result in
    (words ≤ length (cells (goal.at.After-list_words-words c).In_ok-header)) ×
    (take words (cells (goal.at.After-list_words-words c).In_ok-header) ≡ file_words (bytes (goal.at.After-list_words-words c).After-read))
front c =
    rw c.list_words-words.ensures
    (cells_front (bytes (goal.at.After-list_words-words c).After-read) (header (goal.at.After-list_words-words c).In_ok-header)
    (ok (goal.at.After-list_words-words c).In_ok-header) _ (cells (goal.at.After-list_words-words c).In_ok-header) c.read.ensures.cells)

front-points : (c : In_ok-header) → (floats c ≤ length (points c)) ×
    (take (floats c) (points c) ≡ file_points (bytes (goal.at.In_ok-header c).After-read))
front-points c = points_front (bytes (goal.at.In_ok-header c).After-read) (header c) (ok c) _ (points c) c.read.ensures.points

pub returns-then-input-gt65536 : goal.returns-then-input-gt65536
returns-then-input-gt65536 c =
    let a = c.args in
    let long = sym (key_long a.input.now c.if-input-gt65536.true) in
    record {
      answer = ap counted long;
      page = ap (λ o. page_after o a.page.now) long;
    }

pub list_words-words-requires : goal.list_words-words-requires
list_words-words-requires c = let f = facts (goal.at.list_words-words-requires c).In_ok-header in (omega (arith, f.dimension), f.cells)

pub overflow_mul-floats : goal.overflow_mul-floats
overflow_mul-floats c = omega (arith, (facts (goal.at.overflow_mul-floats c).In_ok-header).few_floats)

pub slice_bounds-cells-end : goal.slice_bounds-cells-end
slice_bounds-cells-end c = (front (goal.at.slice_bounds-cells-end c).After-list_words-words).0

pub slice_bounds-winged_key-end : goal.slice_bounds-winged_key-end
slice_bounds-winged_key-end c = sym
    (length-take-le _ (cells (goal.at.slice_bounds-winged_key-end c).In_ok-header)
    (front (goal.at.slice_bounds-winged_key-end c).After-list_words-words).0)

pub slice_bounds-points-end : goal.slice_bounds-points-end
slice_bounds-points-end c = (front-points (goal.at.slice_bounds-points-end c).In_ok-header).0

pub slice_bounds-winged_key-end-2 : goal.slice_bounds-winged_key-end-2
slice_bounds-winged_key-end-2 c = sym
    (length-take-le _ (points (goal.at.slice_bounds-winged_key-end-2 c).In_ok-header)
    (front-points (goal.at.slice_bounds-winged_key-end-2 c).In_ok-header).0)

pub returns : goal.returns
returns c =
    let b = bytes (goal.at.returns c).After-read in
    let h = header (goal.at.returns c).In_ok-header in
    let page = c.args.page.now in
    let stage =
    ap₂ {C = Outcome (List ℕ)} (λ ws ps. winged_key h.version h.d h.n h.v h.s h.h h.step ws ps (length page))
    (front (goal.at.returns c).After-list_words-words).1 (front-points (goal.at.returns c).In_ok-header).1
    ∙ ap (λ room. winged_key h.version h.d h.n h.v h.s h.h h.step (file_words b) (file_points b) room) c.requires
    ∙ sym (key_read b h (ok (goal.at.returns c).In_ok-header) c.if-input-gt65536.false) in
    record {
      answer = c.winged_key.ensures.answer ∙ ap counted stage;
      page = c.winged_key.ensures.page ∙ ap (λ o. page_after o page) stage;
    }

pub returns-in_err-header : goal.returns-in_err-header
returns-in_err-header c =
    let page = c.args.page.now in
    let p = err_from_is_err_and c.from_residual.result c.from_residual.ensures.1 in
    let stage =
    sym (key_refused (bytes (goal.at.returns-in_err-header c).After-read) c.if-input-gt65536.false (number_of c.in_err-header.field-0.0)
    (sym c.in_err-header.ensures.answer)) in
    record {
      answer = rw (p.1, p.2) (ap counted stage);
      page = ap (λ o. page_after o page) stage;
    }
