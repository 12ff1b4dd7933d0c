-- The goals that the search leaves. Assumes nothing.
use mathlib.Core.Path.{◌≡◌, sym, ap, ◌∙◌}
use mathlib.Core.List.{List}
use Prim.Native.Nat.{ℕ, ◌*◌}
use lib.Ieee.{nan, binary64, of_bits}
use Rattle.words.specs.Bytes.{float64}
use Rattle.words.proofs.Loops.{all_goes, all_stops, all_ends}
use Rattle.points.specs.Step.{in_range}
use Rattle.hosting.specs.Floats.{floats64}
use Rattle.hosting.proofs.FloatLaws.{floats_length, float_of}
use Rattle.hosting.proofs.floats.all_in_range.Goals as goal
use Rattle.hosting.proofs.floats.all_in_range.Goals.{After-bits_in_range, At-loop-k}

abbrev bytes : At-loop-k → List ℕ
bytes l = l.args.b.now

-- the test of a turn is that of its float
tested : (c : After-bits_in_range) → in_range (float64 (bytes (goal.at.After-bits_in_range c).At-loop-k) (c.loop-k.k * 8)) ≡ c.bits_in_range.result
tested c = ap (λ w. in_range (of_bits binary64 w)) (sym c.word64.ensures) ∙ sym c.bits_in_range.ensures

pub loop-k-preserved : goal.loop-k-preserved
loop-k-preserved c =
    let b = bytes (goal.at.loop-k-preserved c).At-loop-k in
    let here = c.loop-k-test.true in
    all_goes in_range nan (floats64 b) _ c.loop-k.k (floats_length b) here _ (float_of b _ here) _
    (tested (goal.at.loop-k-preserved c).After-bits_in_range ∙ c.if-not-bits_in_range.false) c.loop-k.invariant

pub returns-then-not-bits_in_range : goal.returns-then-not-bits_in_range
returns-then-not-bits_in_range c =
    let b = bytes (goal.at.returns-then-not-bits_in_range c).At-loop-k in
    let here = c.loop-k-test.true in
    all_stops in_range nan (floats64 b) _ c.loop-k.k (floats_length b) here _ (float_of b _ here) _
    (tested (goal.at.returns-then-not-bits_in_range c).After-bits_in_range ∙ c.if-not-bits_in_range.true) c.loop-k.invariant

pub returns : goal.returns
returns c =
    all_ends in_range nan (floats64 (bytes (goal.at.returns c).At-loop-k)) _ c.loop-k.k (floats_length (bytes (goal.at.returns c).At-loop-k))
    c.loop-k-test.false _ c.loop-k.invariant
