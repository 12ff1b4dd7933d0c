-- The goals that the search leaves. Assumes nothing.
use mathlib.Core.Path.{◌≡◌, sym, ap, ◌∙◌}
use Prim.Native.Nat.{◌+◌, ◌*◌}
use native.Mathlib.Nat.{not-suc-le-zero, zero-mul}
use native.Mathlib.Omega.{arith}
use borrow.Author.Count.{below_more}
use Rattle.words.proofs.Records.{record_fits, record_next}
use Rattle.words.proofs.Writing.{left_starts, left_record, left_records}
use Rattle.rules.proofs.Tests.{and_parts}
use Rattle.records.specs.Layout.{list_size, record_size}
use Rattle.gathering.specs.Inner.Gathering.{blank_table}
use Rattle.gathering.proofs.BlankTables.{blank_fine, blank-length, blank-long, blank_whole, blank_record}
use Rattle.gathering.proofs.all.gather_all.Goals as goal

pub loop-p-init : goal.loop-p-init
unfolding blank_table
loop-p-init g c =
    let a = c.args in (
      rw (zero-mul (record_size a.d)) (left_starts 0 (blank_table a.d a.s a.cells.now) a.table.now
          (omega (arith, c.requires.3, blank-length a.d a.s a.cells.now c.requires.2))),
      λ e q l. absurd (not-suc-le-zero l),
    )

pub gather_cell-good-requires : goal.gather_cell-good-requires
gather_cell-good-requires g c =
    let a = c.args in
    let l = c.loop-p in record {
      d_bound = (omega arith, omega arith, omega (arith, c.requires.2, record_fits (list_size a.d) a.s l.p c.loop-p-test.true));
      d_in_bounds = omega (arith, c.requires.3, l.invariant.0.same, record_fits (record_size a.d) a.s l.p c.loop-p-test.true);
    }

pub loop-p-preserved : goal.loop-p-preserved
loop-p-preserved g c =
    let a = c.args in
    let l = c.loop-p in (
      left_record _ _ (blank_record a.d a.cells.now) c.loop-p-test.true l.invariant.0 _ _
          (record {
            place = record_next (record_size a.d) l.p
                ∙ ap (λ n. l.p * record_size a.d + n) (sym (blank-long a.d a.s a.cells.now c.requires.2 l.p c.loop-p-test.true));
            content = c.gather_cell-good.ensures.table;
          }),
      λ e.
          let r = and_parts l.good _ e in
          below_more _ _ (l.invariant.1 r.0) ((λ t. c.gather_cell-good.ensures.fine t r.1), c.gather_cell-good.ensures.sign r.1),
    )

pub returns : goal.returns
unfolding blank_table
returns g c =
    let a = c.args in
    let whole : c.loop-p.table ≡ blank_table a.d a.s a.cells.now =
    (left_records a.s c.loop-p.p (blank_record a.d a.cells.now) (omega arith) c.loop-p.invariant.0).content
    ∙ blank_whole a.d a.s a.cells.now c.requires.2 a.table.now c.requires.3 in
    let all = c.loop-p.invariant.1 in record {
      table = whole;
      fine = (λ t z p l. rw whole (blank_fine a.d a.s a.cells.now c.requires.2 p l a.v ((all z p (omega arith)).0 t)));
      signs = (λ z p l. (all z p (omega arith)).1);
    }
