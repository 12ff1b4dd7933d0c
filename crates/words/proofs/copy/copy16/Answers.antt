-- The goals that the search leaves. Assumes nothing.
use mathlib.Core.Path.{◌∙◌, sym}
use native.Mathlib.Nat.{add-zero}
use native.Mathlib.Omega.{arith}
use Rattle.words.specs.Bytes.{words_from}
use Rattle.words.proofs.Bytes.{words_get, words-length}
use Rattle.words.proofs.Writing.{left_starts, left_next, left_none}
use Rattle.words.proofs.copy.copy16.Goals as goal

pub loop-k-init : goal.loop-k-init
loop-k-init c =
    let a = c.args in
    rw add-zero (left_starts _ _ _ (omega (arith, words-length a.b.now a.at a.m)))

pub loop-k-preserved : goal.loop-k-preserved
loop-k-preserved c =
    let a = c.args in
    let k = c.loop-k.k in
    left_next 0 (words_from a.b.now a.at a.m) k (omega (arith, words-length a.b.now a.at a.m)) c.loop-k.invariant _ _
    (c.word16.ensures ∙ sym (words_get a.b.now a.at a.m k c.loop-k-test.true)) (omega arith)

pub returns : goal.returns
returns c =
    let a = c.args in
    (left_none (words_from a.b.now a.at a.m) c.loop-k.k (omega (arith, words-length a.b.now a.at a.m)) c.loop-k.invariant).content
