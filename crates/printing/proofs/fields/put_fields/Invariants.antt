-- `fields::put_fields` meets its contract, field by field. Assumes nothing.
use lib.ListN.{drop}
use Rattle.words.proofs.Writing.{Left}
use Rattle.printing.specs.Fields.{fields}
use Rattle.printing.proofs.fields.put_fields.Given as goal

abbrev pub invariant-loop-word : goal.invariant-loop-word
invariant-loop-word l = Left l.at (fields l.words) l.initial.buf l.cur (fields (drop l.word-index l.words)) l.buf
