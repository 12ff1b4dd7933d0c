-- The call wing on words, the further buffer in bytes: these are written from the front of the table's words, which is the
-- list's table. Assumes nothing.
use mathlib.Core.Path.{refl, sym, ap, ◌∙◌}
use mathlib.Core.List.{List}
use Prim.Native.Nat.{ℕ}
use native.Mathlib.Omega.{arith}
use lib.ListN.{length}
use Rattle.std.proofs.lemmas.Result.{err_from_is_err_and}
use Rattle.rules.specs.Numbers.{outcome_of}
use Rattle.wing.specs.Wing.{WingInput, wing_input}
use Rattle.wing.proofs.Lengths.{TableLeft, table_left}
use Rattle.winged.specs.Host.{words_in}
use Rattle.winged.proofs.Inward.{uploaded_after, wing_after}
use Rattle.winged.proofs.reading.wing_list.Goals as goal
use Rattle.winged.proofs.reading.wing_list.Goals.{After-wing_table, In_ok-n}

abbrev told : After-wing_table → WingInput
told c =
    let a = c.args in
    wing_input a.d a.v a.s a.cells.now (length a.out.now) (words_in a.uploaded.now)

abbrev buffer : In_ok-n → List ℕ
buffer c = c.wing_table.new.table

left : (c : In_ok-n) → TableLeft (told (goal.at.In_ok-n c).After-wing_table) c.in_ok-n.n (buffer c)
left c =
    let made = c.wing_table.ensures in
    table_left (told (goal.at.In_ok-n c).After-wing_table) _ (buffer c) _ c.in_ok-n.n made.answer made.table (ap outcome_of c.in_ok-n.was)

pub slice_bounds-uploaded_bytes-end : goal.slice_bounds-uploaded_bytes-end
slice_bounds-uploaded_bytes-end c = (left c).fits

pub slice_bounds-uploaded_bytes-end-2 : goal.slice_bounds-uploaded_bytes-end-2
slice_bounds-uploaded_bytes-end-2 c = sym (left (goal.at.slice_bounds-uploaded_bytes-end-2 c).In_ok-n).long

pub uploaded_bytes-requires : goal.uploaded_bytes-requires
uploaded_bytes-requires c = let l = left (goal.at.uploaded_bytes-requires c).In_ok-n in (l.table, l.size, omega (arith, l.room))

pub returns : goal.returns
returns c =
    let i = told (goal.at.returns c).After-wing_table in
    let a = c.args in
    let l = left (goal.at.returns c).In_ok-n in
    record {
      answer = sym l.told;
      buffer = c.wing_table.ensures.table ∙ wing_after _ i a.out.now (sym l.told);
      uploaded = uploaded_after i _ _ a.uploaded.now l.told l.front _ c.uploaded_bytes.ensures;
    }

pub returns-in_err-n : goal.returns-in_err-n
returns-in_err-n c =
    let p = err_from_is_err_and c.from_residual.result c.from_residual.ensures.1 in
    let no = sym c.wing_table.ensures.answer ∙ ap outcome_of c.in_err-n.was in
    record {
      answer = rw (p.1, p.2) (sym no);
      buffer = rw p.1 (c.wing_table.ensures.table
          ∙ wing_after _ (told (goal.at.returns-in_err-n c).After-wing_table) c.args.out.now (sym no));
      uploaded = rw p.1 refl;
    }
