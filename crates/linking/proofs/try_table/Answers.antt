-- The list is gathered, tested as it is, and linked; then its table is made. Assumes nothing.
use mathlib.Core.Path.{refl, sym, ap, ◌∙◌}
use mathlib.Core.Bool.{false≢true}
use native.Mathlib.Omega.{arith}
use Rattle.records.specs.Inner.Inside.{wing_in}
use Rattle.gathering.proofs.BlankTables.{blank_wing}
use Rattle.linking.proofs.Linkables.{begins}
use Rattle.linking.proofs.Made.{made}
use Rattle.linking.proofs.try_table.Goals as goal

pub returns-then-not-gather : goal.returns-then-not-gather
returns-then-not-gather c = record {
  made = (λ z. absurd (false≢true z));
  long = (refl, refl, refl);
}

pub link_all-requires : goal.link_all-requires
link_all-requires c =
    let a = c.args in
    let e = c.gather.ensures.table in (
      begins a.d a.s _ _ a.head.now a.next.now
          (record { dimension = c.requires.le_d.1; cells = c.requires.le_d.2; long = c.gather.auto.table ∙ c.requires.le_d.4 })
          (omega (arith, c.hashes.ensures.long, c.requires.d_in_bounds.0)) c.requires.d_in_bounds.1 c.requires.d_in_bounds.2 c.requires.d_in_bounds.3
          c.hashes.ensures.hashed
          c.requires.by_index
          (λ p b hp hb. ap (λ ws. wing_in a.d ws p b) e ∙ blank_wing a.d a.s a.cells.now c.requires.le_d.3 p hp b hb),
      c.wings_words.ensures,
    )

pub returns : goal.returns
returns c =
    let a = c.args in
    let e = c.gather.ensures.table in
    let told = c.if-not-gather.false in record {
      made = (λ z.
          let now = c.link_all.ensures.linked z in
          made a.d a.v a.s a.cells.now _ c.requires.le_d.0 c.requires.le_d.1 c.requires.le_d.2 c.requires.le_d.3 (c.gather.ensures.signs told)
          (λ p h. rw (sym e) (c.gather.ensures.fine told p h)) (rw (sym e) now.0) (rw (sym c.wings_words.ensures) now.1));
      long = (c.hashes.ensures.long, c.link_all.ensures.long.0, c.link_all.ensures.long.1);
    }
