-- The goals that the search leaves. Assumes nothing.
use mathlib.Core.List.{List}
use Prim.Native.Nat.{ℕ}
use native.Mathlib.Omega.{arith}
use lib.Ieee.{nan}
use Rattle.words.proofs.Loops.{all_goes, all_stops, all_ends}
use Rattle.points.specs.Step.{in_range}
use Rattle.file.specs.File.{file_points}
use Rattle.file.proofs.Parts.{points-length, point_at}
use Rattle.file.proofs.floats.points_in_range.Goals as goal
use Rattle.file.proofs.floats.points_in_range.Goals.{At-loop-k}

abbrev bytes : At-loop-k → List ℕ
bytes c = c.args.b.now

pub loop-k-preserved : goal.loop-k-preserved
loop-k-preserved c =
    let b = bytes (goal.at.loop-k-preserved c).At-loop-k in
    all_goes in_range nan (file_points b) _ c.loop-k.k (points-length b) (omega arith) _ (point_at b _ (omega arith)) _ (cc) c.loop-k.invariant

pub returns-then-not-in_range : goal.returns-then-not-in_range
returns-then-not-in_range c =
    let b = bytes (goal.at.returns-then-not-in_range c).At-loop-k in
    all_stops in_range nan (file_points b) _ c.loop-k.k (points-length b) (omega arith) _ (point_at b _ (omega arith)) _ (cc) c.loop-k.invariant

pub returns : goal.returns
returns c =
    all_ends in_range nan (file_points (bytes (goal.at.returns c).At-loop-k)) _ c.loop-k.k (points-length (bytes (goal.at.returns c).At-loop-k))
    (omega arith) _ c.loop-k.invariant
