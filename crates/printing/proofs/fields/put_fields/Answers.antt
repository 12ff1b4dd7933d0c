-- The goals that the search leaves. Assumes nothing.
use native.Mathlib.Omega.{arith}
use Rattle.words.proofs.Writing.{left_starts, left_item, left_item_fits, left_items}
use Rattle.printing.specs.Fields.{field}
use Rattle.printing.proofs.fields.put_fields.Goals as goal

pub loop-word-init : goal.loop-word-init
loop-word-init c = left_starts _ _ _ c.requires

pub put_field-cur-requires : goal.put_field-cur-requires
put_field-cur-requires c =
    rw c.from.ensures (left_item_fits field 0 c.args.words.now c.loop-word.word-index (omega arith) c.loop-word.invariant)

pub loop-word-preserved : goal.loop-word-preserved
loop-word-preserved c =
    let put = rw c.from.ensures at c.put_field-cur.ensures in
    left_item field 0 c.args.words.now c.loop-word.word-index (omega arith) c.loop-word.invariant _ _ put

pub shape_of-buf : goal.shape_of-buf
shape_of-buf c = c.loop-word.invariant.same

pub returns : goal.returns
returns c = left_items field c.args.words.now c.loop-word.word-index (omega arith) c.loop-word.invariant
