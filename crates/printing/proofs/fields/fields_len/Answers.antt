-- The goals that the search leaves. Assumes nothing.
use mathlib.Core.Path.{ap}
use Prim.Native.Nat.{◌+◌}
use native.Mathlib.Omega.{arith}
use lib.ListN.{length-append, length, drop, get_or, drop_of_length-le}
use Rattle.words.proofs.Loops.{drop_next}
use Rattle.printing.specs.Fields.{field, fields}
use Rattle.printing.proofs.Digits.{digits-length}
use Rattle.printing.proofs.Bounds.{fields-length}
use Rattle.printing.proofs.fields.fields_len.Goals as goal

pub overflow_add-count : goal.overflow_add-count
overflow_add-count c = omega (arith, digits-length c.from.result)

pub overflow_add-count-in-loop-word : goal.overflow_add-count-in-loop-word
overflow_add-count-in-loop-word c = omega (arith, digits-length c.from.result, fields-length c.args.words.now)

pub loop-word-preserved : goal.loop-word-preserved
loop-word-preserved c =
    let ws = c.args.words.now in
    let i = c.loop-word.word-index in
    let next = drop_next 0 ws i (omega arith) in
    let long = rw c.from.ensures at c.digits_len.ensures in
    omega (arith, ap (λ r. length (fields r)) next, length-append (field (get_or ws i 0)) (fields (drop (i + 1) ws)))

pub returns : goal.returns
returns c = omega (arith, ap (λ r. length (fields r)) (drop_of_length-le c.args.words.now c.loop-word-test.false))
