-- The goals that the search leaves. Assumes nothing.
use mathlib.Core.Path.{◌∙◌, sym}
use native.Mathlib.Omega.{arith}
use lib.Dec.{leb}
use borrow.Author.Tests.{le-leb, lt-leb}
use Rattle.words.specs.Bytes.{words_from}
use Rattle.words.proofs.Bytes.{words_get, words-length}
use Rattle.words.proofs.Loops.{any_goes, any_stops, any_ends}
use Rattle.file.proofs.cells.beyond.Goals as goal

pub returns-then-v-x : goal.returns-then-v-x
returns-then-v-x c =
    let a = c.args in
    let b = a.b.now in
    let k = c.loop-k.k in
    any_stops (λ x. leb a.v x) 0 (words_from b a.at a.m) a.m k (words-length b a.at a.m) c.loop-k-test.true
    _ (words_get b a.at a.m k c.loop-k-test.true ∙ sym (c.from-x.ensures ∙ c.word16.ensures)) _ (le-leb _ _ c.if-v-x.true) c.loop-k.invariant

pub loop-k-preserved : goal.loop-k-preserved
loop-k-preserved c =
    let a = c.args in
    let b = a.b.now in
    let k = c.loop-k.k in
    any_goes (λ x. leb a.v x) 0 (words_from b a.at a.m) a.m k (words-length b a.at a.m) c.loop-k-test.true
    _ (words_get b a.at a.m k c.loop-k-test.true ∙ sym (c.from-x.ensures ∙ c.word16.ensures)) _ (lt-leb _ _ c.if-v-x.false) c.loop-k.invariant

pub returns : goal.returns
returns c =
    let a = c.args in
    let b = a.b.now in
    any_ends (λ x. leb a.v x) 0 (words_from b a.at a.m) a.m c.loop-k.k (words-length b a.at a.m) (omega arith) _ c.loop-k.invariant
