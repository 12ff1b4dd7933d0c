-- The goals that the search leaves. Assumes nothing.
use mathlib.Core.Path.{ap}
use Prim.Native.Nat.{◌+◌}
use native.Mathlib.Omega.{arith}
use lib.ListN.{drop, length-append, length}
use Rattle.words.specs.Records.{tabulate, concat}
use Rattle.listing.specs.Lines.{vertex_line}
use Rattle.listing.proofs.Bounds.{vertex-length, lines_length}
use Rattle.listing.proofs.Runs.{lines_rest, lines_end, point-within}
use Rattle.listing.proofs.vertices.vertices_len.Goals as goal

pub vertex_len-count-requires : goal.vertex_len-count-requires
vertex_len-count-requires c =
    record {
      axes = c.requires.axes;
      number = omega (arith, c.requires.vertices);
      within = point-within c.args.n c.args.v c.loop-p.p _ c.requires.long c.loop-p-test.true;
      ranged = c.requires.ranged;
    }

pub overflow_add-count : goal.overflow_add-count
overflow_add-count c =
    let ps = c.args.points.now in
    let n = c.args.n in
    let v = c.args.v in
    let p = c.loop-p.p in
    let f = vertex_line n ps in
    omega (
      arith,
      c.vertex_len-count.ensures,
      c.loop-p.invariant,
      ap length (lines_rest v f p c.loop-p-test.true),
      length-append (f p) (concat (drop (p + 1) (tabulate v f))),
      lines_length 256 v f (λ q. vertex-length n ps q c.requires.axes),
      c.requires.vertices,
    )

pub loop-p-preserved : goal.loop-p-preserved
loop-p-preserved c =
    let n = c.args.n in
    let v = c.args.v in
    let p = c.loop-p.p in
    let f = vertex_line n c.args.points.now in
    omega (
      arith,
      c.vertex_len-count.ensures,
      c.loop-p.invariant,
      ap length (lines_rest v f p c.loop-p-test.true),
      length-append (f p) (concat (drop (p + 1) (tabulate v f))),
    )

pub returns : goal.returns
returns c =
    let v = c.args.v in
    let f = vertex_line c.args.n c.args.points.now in
    omega (arith, c.loop-p.invariant, ap length (lines_end v f c.loop-p.p c.loop-p-test.false))
