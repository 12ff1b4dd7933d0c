-- The goals that the search leaves. Assumes nothing.
use mathlib.Core.Path.{sym}
use Prim.Native.Nat.{◌+◌, ◌*◌, ◌<◌}
use native.Mathlib.Omega.{arith}
use lib.ListN.{length}
use borrow.Author.Count.{below_none, below_more}
use borrow.Author.Tests.{lt-ltb, le-ltb}
use Rattle.tables.specs.Inner.Held.{above_at}
use Rattle.records.proofs.Parts.{inside}
use Rattle.words.proofs.Below.{any_below_lem, none_below}
use Rattle.tables.proofs.gather.any_above.Goals as goal
use Rattle.tables.proofs.gather.any_above.Goals.{In-loop-p}

-- the word of record p is among the words
room : (c : In-loop-p) → let a = c.args in c.loop-p.p * a.size + a.k < length a.words.now
room c =
    let a = c.args in
    omega (arith, inside a.s a.size c.loop-p.p a.k c.loop-p-test.true (omega arith))

pub loop-p-init : goal.loop-p-init
loop-p-init c = below_none _

pub overflow_mul-p : goal.overflow_mul-p
overflow_mul-p c = omega (arith, room c)

pub overflow_add-p : goal.overflow_add-p
overflow_add-p c = omega (arith, room c)

pub offset_bounds-words-p : goal.offset_bounds-words-p
offset_bounds-words-p c = omega (arith, room c)

pub bounds-words-p : goal.bounds-words-p
bounds-words-p c = room (goal.at.bounds-words-p c).In-loop-p

pub returns-then-most-words : goal.returns-then-most-words
returns-then-most-words c =
    let a = c.args in
    sym (any_below_lem (above_at a.size a.k a.most a.words.now) _ _ c.loop-p-test.true (lt-ltb _ _ c.if-most-words.true))

pub loop-p-preserved : goal.loop-p-preserved
loop-p-preserved c = below_more _ _ c.loop-p.invariant (le-ltb _ _ c.if-most-words.false)

pub returns : goal.returns
returns c =
    let a = c.args in
    sym (none_below (above_at _ _ _ a.words.now) a.s (λ q l. c.loop-p.invariant q (omega arith)))
