-- `is_sound` answers `sound`: each return is a case of SoundCases. Assumes nothing.
use mathlib.Core.Path.{◌≡◌, sym, ap, ◌∙◌}
use mathlib.Core.Bool.{Bool, true, false, not}
use Prim.Native.Nat.{ℕ}
use native.Mathlib.Omega.{arith}
use lib.Dec.{eqb}
use lib.ListN.{length, length-replicate}
use Rattle.rules.specs.Calls.{first_refusal}
use Rattle.rules.specs.Limits.{max_dimension}
use Rattle.rules.specs.Numbers.{verdict_of}
use Rattle.rules.specs.Shapes.{shape_ok}
use Rattle.rules.proofs.Answers.{refused_with, passed_with}
use Rattle.rules.proofs.InLimits.{Limits, limits_are}
use Rattle.rules.proofs.Tests.{differs, agrees}
use Rattle.records.specs.Layout.{record_size, table_length}
use Rattle.solids.specs.Accept.{solid_rules}
use Rattle.tables.specs.Inner.Held.{record_list}
use Rattle.tables.proofs.SoundCases.{fresh_blank, unsound-outside, unsound-length, unsound-refused, sound-same}
use Rattle.tables.proofs.sound.is_sound.Goals as goal
use Rattle.tables.proofs.sound.is_sound.Goals.{After-take, After-within, Else-not-within, Else-table-table_words, Then-table-table_words}

-- the two tests of the numbers
outside : (c : After-within) → let a = c.args in not (shape_ok max_dimension a.d a.v a.s) ≡ not c.within.result
outside c = ap not (sym c.within.ensures)

longer : (c : Then-table-table_words) → let a = c.args in not (eqb (length a.table.now) (table_length a.d a.s)) ≡ true
longer c = differs _ _ (λ e. c.if-table-table_words.true (e ∙ sym c.table_words.ensures))

inside : (c : Else-not-within) → let a = c.args in not (shape_ok max_dimension a.d a.v a.s) ≡ false
inside c = outside (goal.at.Else-not-within c).After-within ∙ ap not c.if-not-within.false

limits : (c : Else-not-within) → let a = c.args in Limits max_dimension a.d a.v a.s
limits c = limits_are _ _ _ _ (inside c)

alike : (c : Else-table-table_words) → let a = c.args in length a.table.now ≡ table_length a.d a.s
alike c = c.if-table-table_words.false ∙ c.table_words.ensures

long : (c : Else-table-table_words) → let a = c.args in not (eqb (length a.table.now) (table_length a.d a.s)) ≡ false
long c = agrees _ _ (alike c)

-- what is answered of rows 6 to 11
answered : (c : After-take) → let a = c.args in
    verdict_of c.take.result ≡ first_refusal solid_rules (record_list (record_size a.d) a.d a.v a.s a.table.now)
answered c =
    let a = c.args in
    c.take.ensures.number ∙ ap (λ n. first_refusal solid_rules (record_list n a.d a.v a.s a.table.now)) c.record_size-size.ensures

pub returns-then-not-within : goal.returns-then-not-within
returns-then-not-within c = unsound-outside _ _ _ _ (outside (goal.at.returns-then-not-within c).After-within ∙ ap not c.if-not-within.true)

pub table_words-requires : goal.table_words-requires
table_words-requires c = let l = limits c in (l.dimension, l.cells)

pub returns-then-table-table_words : goal.returns-then-table-table_words
returns-then-table-table_words c =
    let p = goal.at.returns-then-table-table_words c in
    unsound-length _ _ _ _ (inside p.Else-not-within) (longer p.Then-table-table_words)

pub record_size-size-requires : goal.record_size-size-requires
record_size-size-requires c = (limits (goal.at.record_size-size-requires c).Else-not-within).dimension

pub take-requires : goal.take-requires
take-requires c =
    let l = limits (goal.at.take-requires c).Else-not-within in
    let a = c.args in
    let e = alike (goal.at.take-requires c).Else-table-table_words in
    record {
      d_bound = (l.dimension, omega arith, omega arith, l.cells, rw c.record_size-size.ensures (omega arith));
      rows_len = (length-replicate {A = ℕ} 32768 0, length-replicate {A = Bool} 4096 false, fresh_blank);
    }

pub same-requires : goal.same-requires
same-requires c = let l = limits (goal.at.same-requires c).Else-not-within in
    (l.dimension, l.cells, alike (goal.at.same-requires c).Else-table-table_words)

pub returns-then-is_err : goal.returns-then-is_err
returns-then-is_err c =
    let p = goal.at.returns-then-is_err c in
    let r = refused_with c.take.result (sym c.is_err.ensures.value ∙ c.if-is_err.true) in
    unsound-refused _ _ _ _ (inside p.Else-not-within) (long p.Else-table-table_words) r.0 (r.1 ∙ answered p.After-take)

pub returns : goal.returns
returns c =
    let p = goal.at.returns c in
    let passes = passed_with c.take.result (sym c.is_err.ensures.value ∙ c.if-is_err.false) in
    sound-same _ _ _ _ (inside p.Else-not-within) (long p.Else-table-table_words) _ _ _ _ _ (sym passes ∙ answered p.After-take)
    (rw c.record_size-size.ensures at (c.take.ensures.taken passes)) c.same.ensures
