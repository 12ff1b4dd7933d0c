-- The goals that the search leaves. Assumes nothing.
use mathlib.Core.Bool.{Bool, not, ◌||◌}
use mathlib.Core.List.{List}
use Prim.Native.Nat.{ℕ}
use native.Mathlib.Omega.{arith}
use lib.Dec.{eqb}
use Rattle.words.proofs.Loops.{any_goes, any_stops, any_ends}
use Rattle.file.specs.File.{sign_bytes}
use Rattle.file.proofs.Parts.{signs-length, sign_at_lem}
use Rattle.file.proofs.cells.bad_sign.Goals as goal
use Rattle.file.proofs.cells.bad_sign.Goals.{At-loop-p}

abbrev no_sign : ℕ → Bool
no_sign x = not (eqb x 43 || eqb x 45)

abbrev bytes : At-loop-p → List ℕ
bytes c = c.args.b.now

pub returns-then-no_sign : goal.returns-then-no_sign
returns-then-no_sign c =
    let b = bytes (goal.at.returns-then-no_sign c).At-loop-p in
    any_stops no_sign 0 (sign_bytes b) _ c.loop-p.p (signs-length b) (omega arith) _ (sign_at_lem b _ (omega arith)) _ (cc) c.loop-p.invariant

pub loop-p-preserved : goal.loop-p-preserved
loop-p-preserved c =
    let b = bytes (goal.at.loop-p-preserved c).At-loop-p in
    any_goes no_sign 0 (sign_bytes b) _ c.loop-p.p (signs-length b) (omega arith) _ (sign_at_lem b _ (omega arith)) _ (cc) c.loop-p.invariant

pub returns : goal.returns
returns c = any_ends no_sign 0 (sign_bytes (bytes (goal.at.returns c).At-loop-p)) _ c.loop-p.p (signs-length (bytes (goal.at.returns c).At-loop-p))
    (omega arith) _ c.loop-p.invariant
