-- `wing` answers `wing_outcome` and leaves `wing_buffer` and `uploaded_buffer`: the further words are written from the front of
-- the table's buffer, which is the list's table. Assumes nothing.
use mathlib.Core.Path.{sym, ap, ◌∙◌}
use mathlib.Core.List.{List}
use Prim.Native.Nat.{ℕ}
use lib.ListN.{length}
use Rattle.std.proofs.lemmas.Result.{err_from_is_err_and}
use Rattle.rules.specs.Numbers.{number_of, outcome_of}
use Rattle.wing.specs.Wing.{WingInput, wing_input}
use Rattle.wing.proofs.Lengths.{TableLeft, table_left}
use Rattle.wing.proofs.UploadedRows.{uploaded_kept, uploaded_put}
use Rattle.wing.proofs.wing.Goals as goal
use Rattle.wing.proofs.wing.Goals.{After-wing_table, In_ok-n}

abbrev told : After-wing_table → WingInput
told c =
    let a = c.args in
    wing_input a.d a.v a.s a.cells.now (length a.table.now) (length a.uploaded.now)

abbrev buffer : In_ok-n → List ℕ
buffer c = c.wing_table.new.table

left : (c : In_ok-n) → TableLeft (told (goal.at.In_ok-n c).After-wing_table) c.in_ok-n.n (buffer c)
left c =
    table_left (told (goal.at.In_ok-n c).After-wing_table) _ (buffer c) _ c.in_ok-n.n c.wing_table.ensures.answer
    c.wing_table.ensures.table (ap outcome_of c.in_ok-n.was)

pub slice_bounds-write_uploaded-end : goal.slice_bounds-write_uploaded-end
slice_bounds-write_uploaded-end c = (left (goal.at.slice_bounds-write_uploaded-end c).In_ok-n).fits

pub slice_bounds-write_uploaded-end-2 : goal.slice_bounds-write_uploaded-end-2
slice_bounds-write_uploaded-end-2 c = sym (left (goal.at.slice_bounds-write_uploaded-end-2 c).In_ok-n).long

pub write_uploaded-requires : goal.write_uploaded-requires
write_uploaded-requires c = let l = left (goal.at.write_uploaded-requires c).In_ok-n in (l.table, l.size, l.room)

pub returns : goal.returns
returns c =
    let i = told (goal.at.returns c).After-wing_table in
    let l = left (goal.at.returns c).In_ok-n in
    record {
      answer = sym l.told;
      table = c.wing_table.ensures.table;
      uploaded = uploaded_put i _ _ _ _ l.told l.front c.write_uploaded.ensures;
    }

pub returns-in_err-n : goal.returns-in_err-n
returns-in_err-n c =
    let p = err_from_is_err_and c.from_residual.result c.from_residual.ensures.1 in
    let no = sym c.wing_table.ensures.answer ∙ ap outcome_of c.in_err-n.was in
    record {
      answer = rw (p.1, p.2) (sym no);
      table = c.wing_table.ensures.table;
      uploaded = uploaded_kept (told (goal.at.returns-in_err-n c).After-wing_table) _ (number_of c.in_err-n.field-0.0) no;
    }
