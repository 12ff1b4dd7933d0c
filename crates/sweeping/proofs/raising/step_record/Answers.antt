-- What was read is put. Assumes nothing.
use Rattle.std.proofs.Common.{◌≡◌, suc, ◌∙◌, arith, length-drop}
use Rattle.std.proofs.lemmas.List.{length-take-le}
use Rattle.records.specs.Layout.{record_size}
use Rattle.sweeping.proofs.Stepping.{row_stepped}
use Rattle.sweeping.proofs.raising.step_record.Goals as goal

pub stepped_row-row-requires : goal.stepped_row-row-requires
stepped_row-row-requires g c = (c.requires.0, c.requires.1)

pub returns : goal.returns
returns g c =
    let a = c.args in
    let n : c.record_size-n.result ≡ record_size (suc g.row.D) = omega (arith, c.record_size-n.ensures) in
    let long = c.copy_from_slice.ensures.len ∙ length-take-le _ _ (omega (arith, n, c.requires.2, length-drop a.to a.out.now)) in
    row_stepped (record_size (suc g.row.D)) a.from a.to _ a.steps.now c.stepped_row-row.result a.out.now _ (omega (arith, n)) c.requires.2
    (rw n at c.copy_from_slice.ensures.after) (omega (arith, n, long)) c.stepped_row-row.ensures
