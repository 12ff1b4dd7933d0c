-- The goals that the search leaves. Assumes nothing.
use mathlib.Core.Path.{◌∙◌, sym}
use native.Mathlib.Omega.{arith}
use lib.Dec.{eqb}
use borrow.Author.Tests.{eq-eqb, ne_eqb}
use Rattle.words.specs.Bytes.{words_from}
use Rattle.words.proofs.Bytes.{words_get, words-length}
use Rattle.words.proofs.Loops.{any_goes, any_stops, any_ends}
use Rattle.file.proofs.cells.holds.Goals as goal

pub returns-then-x-y : goal.returns-then-x-y
returns-then-x-y c =
    let a = c.args in
    let b = a.b.now in
    let k = c.loop-k.k in
    any_stops (eqb a.x) 0 (words_from b a.at a.m) a.m k (words-length b a.at a.m) c.loop-k-test.true
    _ (words_get b a.at a.m k c.loop-k-test.true ∙ sym c.word16-y.ensures) _ (eq-eqb _ _ c.if-x-y.true) c.loop-k.invariant

pub loop-k-preserved : goal.loop-k-preserved
loop-k-preserved c =
    let a = c.args in
    let b = a.b.now in
    let k = c.loop-k.k in
    any_goes (eqb a.x) 0 (words_from b a.at a.m) a.m k (words-length b a.at a.m) c.loop-k-test.true
    _ (words_get b a.at a.m k c.loop-k-test.true ∙ sym c.word16-y.ensures) _ (ne_eqb _ _ c.if-x-y.false) c.loop-k.invariant

pub returns : goal.returns
returns c =
    let a = c.args in
    let b = a.b.now in
    any_ends (eqb a.x) 0 (words_from b a.at a.m) a.m c.loop-k.k (words-length b a.at a.m) (omega arith) _ c.loop-k.invariant
