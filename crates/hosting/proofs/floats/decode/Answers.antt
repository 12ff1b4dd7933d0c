-- The goals that the search leaves. Assumes nothing.
use mathlib.Core.Path.{◌≡◌, refl, sym, ap, ◌∙◌}
use Prim.Native.Nat.{◌<◌, ◌+◌}
use native.Mathlib.Omega.{arith}
use lib.Ieee.{nan, binary64, of_bits}
use lib.ListN.{length, get_or}
use Rattle.words.proofs.Loops.{all_at}
use Rattle.words.proofs.Writing.{left_starts, left_next, left_none, put_first}
use Rattle.points.specs.Step.{in_range}
use Rattle.hosting.specs.Floats.{floats64}
use Rattle.hosting.proofs.FloatLaws.{floats_length, float_of}
use Rattle.hosting.proofs.floats.decode.Goals as goal
use Rattle.hosting.proofs.floats.decode.Goals.{After-word64, In-loop-k}

-- a turn's float
here : (c : After-word64) → of_bits binary64 c.word64.result ≡ get_or (floats64 c.args.b.now) c.loop-k.k nan
here c = ap (of_bits binary64) c.word64.ensures ∙ sym (float_of _ _ c.loop-k-test.true)

inside : (c : In-loop-k) → c.loop-k.k < length (floats64 c.args.b.now)
inside c = omega (arith, floats_length c.args.b.now, c.loop-k-test.true)

pub loop-k-init : goal.loop-k-init
loop-k-init c = left_starts 0 _ _ (omega (arith, floats_length c.args.b.now))

pub float_of-requires : goal.float_of-requires
float_of-requires c =
    ap in_range (here c) ∙ all_at in_range nan (floats64 c.args.b.now) c.loop-k.k c.requires.0 (inside (goal.at.float_of-requires c).In-loop-k)

pub loop-k-preserved : goal.loop-k-preserved
loop-k-preserved c =
    let k = c.loop-k.k in
    left_next nan (floats64 c.args.b.now) k (inside (goal.at.loop-k-preserved c).In-loop-k) c.loop-k.invariant (k + 1) _ (c.float_of.ensures
    ∙ here (goal.at.loop-k-preserved c).After-word64) refl

pub returns : goal.returns
returns c =
    let b = c.args.b.now in
    put_first (left_none (floats64 b) c.loop-k.k (omega (arith, floats_length b)) c.loop-k.invariant)
