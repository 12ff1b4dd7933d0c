-- `write_table` answers `table_outcome` and leaves `table_after`: each return is a case of Tabling. Assumes nothing.
use mathlib.Core.Path.{◌≡◌, sym, ap, ◌∙◌}
use mathlib.Core.Bool.{Bool, false, ◌||◌}
use Prim.Native.Nat.{ℕ}
use native.Mathlib.Omega.{arith}
use lib.Dec.{ltb}
use lib.ListN.{length, length-replicate}
use borrow.Author.Tests.{ltb-false}
use Rattle.std.proofs.lemmas.Result.{err_from_is_err_and}
use Rattle.rules.specs.Calls.{first_refusal}
use Rattle.rules.specs.Numbers.{verdict_of}
use Rattle.solids.specs.Accept.{solid_rules}
use Rattle.solids.proofs.Tests.{or_false}
use Rattle.records.specs.Layout.{list_size, table_length, wings_length}
use Rattle.tables.specs.Inner.Held.{record_list}
use Rattle.tables.proofs.SoundCases.{fresh_blank}
use Rattle.tables.proofs.Tabling.{refuses, no_room, accepts}
use Rattle.tables.proofs.tabled.write_table.Goals as goal
use Rattle.tables.proofs.Taking.{taken_written}
use Rattle.tables.proofs.tabled.write_table.Goals.{After-take, Else-too_short, In_ok-take}

-- what is answered of rows 6 to 8, 18 and 9 to 11
answered : (c : After-take) → let a = c.args in
    verdict_of c.take.result ≡ first_refusal solid_rules (record_list (list_size a.d) a.d a.v a.s a.cells.now)
answered c =
    let a = c.args in
    c.take.ensures.number ∙ ap (λ n. first_refusal solid_rules (record_list n a.d a.v a.s a.cells.now)) c.list_size-size.ensures

-- these rows pass
none : (c : In_ok-take) → let a = c.args in
    0 ≡ first_refusal solid_rules (record_list (list_size a.d) a.d a.v a.s a.cells.now)
none c = sym (ap verdict_of c.in_ok-take.was) ∙ answered (goal.at.In_ok-take c).After-take

fits : (c : Else-too_short) → let a = c.args in
    (ltb (length a.table.now) (table_length a.d a.s) || ltb a.further (wings_length a.d a.s)) ≡ false
fits c = sym c.too_short.ensures ∙ c.if-too_short.false

pub take-requires : goal.take-requires
take-requires c =
    record {
      d_bound = (omega arith, omega arith, omega arith, omega arith, rw c.list_size-size.ensures (omega arith));
      rows_len = (length-replicate {A = ℕ} 32768 0, length-replicate {A = Bool} 4096 false, fresh_blank);
    }

pub returns-in_err-take : goal.returns-in_err-take
returns-in_err-take c =
    let p = err_from_is_err_and c.from_residual.result c.from_residual.ensures.1 in
    let n = ap (λ n. first_refusal solid_rules (record_list n c.args.d c.args.v c.args.s c.args.cells.now)) c.list_size-size.ensures in
    let r = refuses _ _ _ _ c.args.further _ c.requires.2 c.in_err-take.field-0.0 (c.in_err-take.ensures.number ∙ n) in
    record { answer = rw (p.1, p.2) r.0; table = r.1 }

pub returns-then-too_short : goal.returns-then-too_short
returns-then-too_short c =
    let r = no_room _ _ _ _ _ _ c.requires.2 (none (goal.at.returns-then-too_short c).In_ok-take) (sym c.too_short.ensures ∙ c.if-too_short.true) in
    record { answer = r.0; table = r.1 }

pub fill-requires : goal.fill-requires
fill-requires c =
    (omega arith, omega arith, c.requires.2, ltb-false _ _ (or_false _ _ (fits (goal.at.fill-requires c).Else-too_short)).0)

pub returns : goal.returns
returns c =
    let a = c.args in
    let t = (goal.at.returns c).In_ok-take in
    let r = accepts _ _ _ _ _ _ c.requires.2 (none t) _ _ (fits (goal.at.returns c).Else-too_short) c.table_words.ensures
    (c.fill.ensures
    ∙ taken_written a.d a.v a.s a.cells.now _ _ _ _ a.table.now (omega arith)
    (omega arith) c.requires.2 (rw c.list_size-size.ensures at (c.take.ensures.taken (ap verdict_of c.in_ok-take.was)))) in
    record { answer = r.0; table = r.1 }
