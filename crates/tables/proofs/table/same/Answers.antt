-- The goals that the search leaves. Assumes nothing.
use mathlib.Core.Path.{◌≡◌, sym, ap, ◌∙◌}
use Prim.Native.Nat.{ℕ, ◌+◌, ◌*◌, ◌≤◌}
use native.Mathlib.Omega.{arith}
use lib.ListN.{length, get_or}
use borrow.Author.Count.{below_none, below_more}
use Rattle.words.proofs.Records.{record_fits}
use Rattle.simplex.proofs.Rows.{same_row_true}
use Rattle.simplex.specs.Cell.{same_row}
use Rattle.tables.specs.Inner.Held.{material_at, record_held, run}
use Rattle.records.specs.Layout.{record_size, material_place}
use Rattle.tables.proofs.Filling.{table_other, table_same}
use Rattle.tables.proofs.table.same.Goals as goal
use Rattle.tables.proofs.table.same.Goals.{After-same_record, In-loop-p}

-- where record p begins
start : (c : In-loop-p) → c.loop-p.p * c.record_size-size.result ≡ c.loop-p.p * record_size c.args.d
start c = ap (λ n. c.loop-p.p * n) c.record_size-size.ensures

-- it ends within the table
fits : (c : In-loop-p) → c.loop-p.p * c.record_size-size.result + record_size c.args.d ≤ length c.args.table.now
fits c = omega (arith, start c, record_fits (record_size c.args.d) _ _ c.loop-p-test.true)

-- what was found of record p
found : (c : After-same_record) → let a = c.args in
    c.same_record.result
    ≡ same_row (run (record_size a.d) (c.loop-p.p * record_size a.d) a.table.now)
    (record_held a.d a.rows.now a.signs.now a.wings.now (material_at (record_size a.d) a.table.now c.loop-p.p) c.loop-p.p)
found c =
    let a = c.args in
    c.same_record.ensures
    ∙ ap (λ (i : ℕ). same_row (run (record_size a.d) i a.table.now)
    (record_held a.d a.rows.now a.signs.now a.wings.now (get_or a.table.now (i + material_place) 0) c.loop-p.p))
    (start (goal.at.After-same_record c).In-loop-p)

pub loop-p-init : goal.loop-p-init
loop-p-init c = below_none _

pub same_record-requires : goal.same_record-requires
same_record-requires c = (omega arith, omega arith, fits c)

pub overflow_mul-p : goal.overflow_mul-p
overflow_mul-p c = omega (arith, fits c)

pub returns-then-not-same_record : goal.returns-then-not-same_record
returns-then-not-same_record c =
    let a = c.args in
    sym (table_other _ a.rows.now a.signs.now (material_at (record_size a.d) a.table.now) a.wings.now _ a.table.now c.requires.2 _
    c.loop-p-test.true
    (sym (found (goal.at.returns-then-not-same_record c).After-same_record) ∙ c.if-not-same_record.true))

pub loop-p-preserved : goal.loop-p-preserved
loop-p-preserved c =
    let a = c.args in
    below_more _ _ c.loop-p.invariant (same_row_true (run (record_size a.d) _ a.table.now) (record_held _ _ _ _ _ _)
    (sym (found (goal.at.loop-p-preserved c).After-same_record) ∙ c.if-not-same_record.false))

pub returns : goal.returns
returns c =
    sym (table_same _ _ _ (material_at (record_size c.args.d) c.args.table.now) _ _ c.args.table.now c.requires.2
    (λ q h. c.loop-p.invariant q (omega arith)))
