-- The goals that the search leaves. Assumes nothing.
use mathlib.Core.Path.{refl, ◌∙◌}
use mathlib.Core.List.{◌∷◌}
use Prim.Native.Nat.{◌+◌, ◌*◌, ◌/◌, ◌%◌}
use native.Mathlib.Omega.{arith}
use lib.ListN.{drop, get_or, drop_of_length-le}
use Rattle.words.specs.Bytes.{bytes_of}
use Rattle.words.proofs.Bytes.{bytes-length}
use Rattle.words.proofs.Loops.{drop_next}
use Rattle.words.proofs.Writing.{left_starts, left_word, left_ends, put_first}
use Rattle.words.proofs.copy.encode.Goals as goal

pub loop-p-init : goal.loop-p-init
loop-p-init c = left_starts _ _ _ (omega (arith, bytes-length c.args.words.now))

pub loop-p-preserved : goal.loop-p-preserved
loop-p-preserved c =
    let l = c.loop-p in
    let words = c.args.words.now in
    let w = get_or words l.p 0 in
    let rest = bytes_of (drop (l.p + 1) words) in
    let low =
    left_word (w % 256) ((w / 256 % 256) ∷ rest) (l.p * 2 + 1) refl (rw (drop_next 0 words l.p c.loop-p-test.true) at l.invariant) in
    rw c.to_le_bytes.ensures (left_word (w / 256 % 256) rest _ (omega arith) low)

pub returns : goal.returns
returns c =
    let l = c.loop-p in
    let words = c.args.words.now in
    put_first (left_ends (rw (drop_of_length-le words c.loop-p-test.false) at l.invariant)) ∙ rw (bytes-length words)
