-- The goals that the search leaves. Assumes nothing.
use mathlib.Core.List.{List, map}
use mathlib.Core.Path.{◌≡◌, ap}
use Prim.Native.Nat.{◌+◌}
use native.Mathlib.Omega.{arith}
use lib.Ieee.{Float, nan}
use lib.ListN.{length-append, length, drop, get_or, drop_of_length-le}
use Rattle.words.proofs.Loops.{all_at, drop_next}
use Rattle.points.specs.Step.{in_range}
use Rattle.printing.specs.Decimal.{digits, coordinate}
use Rattle.printing.specs.Fields.{rest_of_line}
use Rattle.printing.proofs.Digits.{digits-length}
use Rattle.printing.proofs.Bounds.{coordinate-length}
use Rattle.listing.proofs.Bounds.{vertex-length}
use Rattle.listing.proofs.Runs.{vertex-line, point_here, point-ranged}
use Rattle.listing.proofs.vertices.vertex_len.Goals as goal
use Rattle.listing.proofs.vertices.vertex_len.Goals.{After-coordinate_len, Start}

-- the point's coordinates
abbrev point : Start → List Float
point c = point_here c.args.n c.args.p c.args.points.now

-- a coordinate's field, and what is left behind it
next : (c : After-coordinate_len) → let xs = point (goal.at.After-coordinate_len c).Start in
    length (rest_of_line (map coordinate (drop c.loop-x.x-index xs)))
    ≡ 1 + c.coordinate_len.result + length (rest_of_line (map coordinate (drop (c.loop-x.x-index + 1) xs)))
next c =
    let xs = point (goal.at.After-coordinate_len c).Start in
    let i = c.loop-x.x-index in
    omega (
      arith,
      c.coordinate_len.ensures,
      ap (λ r. length (rest_of_line (map coordinate r))) (drop_next nan xs i (omega arith)),
      length-append (coordinate (get_or xs i nan)) (rest_of_line (map coordinate (drop (i + 1) xs))),
    )

pub overflow_add-count : goal.overflow_add-count
overflow_add-count c = omega (arith, c.digits_len-count.ensures, digits-length c.args.p)

pub loop-x-init : goal.loop-x-init
loop-x-init c =
    let xs = point (goal.at.loop-x-init c).Start in
    omega (
      arith,
      c.digits_len-count.ensures,
      ap length (vertex-line c.args.n c.args.p c.args.points.now),
      length-append (digits c.args.p) (rest_of_line (map coordinate xs)),
    )

pub coordinate_len-requires : goal.coordinate_len-requires
coordinate_len-requires c =
    let ranged = point-ranged c.args.n c.args.p c.args.points.now c.requires.within c.requires.ranged in
    all_at in_range nan (point (goal.at.coordinate_len-requires c).Start) c.loop-x.x-index ranged (omega arith)

pub overflow_add-count-in-loop-x : goal.overflow_add-count-in-loop-x
overflow_add-count-in-loop-x c =
    omega (
      arith,
      c.coordinate_len.ensures,
      coordinate-length (get_or (point (goal.at.overflow_add-count-in-loop-x c).Start) c.loop-x.x-index nan),
    )

pub overflow_add-count-in-loop-x-2 : goal.overflow_add-count-in-loop-x-2
overflow_add-count-in-loop-x-2 c =
    let n = c.args.n in
    omega (arith, next (goal.at.overflow_add-count-in-loop-x-2 c).After-coordinate_len, vertex-length n c.args.points.now c.args.p c.requires.axes)

pub loop-x-preserved : goal.loop-x-preserved
loop-x-preserved c = omega (arith, next (goal.at.loop-x-preserved c).After-coordinate_len)

pub returns : goal.returns
returns c =
    let xs = point (goal.at.returns c).Start in
    omega (arith, ap (λ r. length (rest_of_line (map coordinate r))) (drop_of_length-le xs c.loop-x-test.false))
