-- `fields::fields_len` meets its contract: what is counted and what is left make the whole. Assumes nothing.
use mathlib.Core.Path.{◌≡◌}
use Prim.Native.Nat.{◌+◌}
use lib.ListN.{length, drop}
use Rattle.printing.specs.Fields.{fields}
use Rattle.printing.proofs.fields.fields_len.Given as goal

abbrev pub invariant-loop-word : goal.invariant-loop-word
invariant-loop-word l = l.count + length (fields (drop l.word-index l.words)) ≡ length (fields l.words)
