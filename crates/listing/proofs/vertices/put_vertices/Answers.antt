-- The goals that the search leaves. Assumes nothing.
use Prim.Native.Nat.{◌+◌}
use native.Mathlib.Omega.{arith}
use lib.ListN.{drop}
use Rattle.words.specs.Records.{tabulate, concat}
use Rattle.words.proofs.Writing.{left_starts, left_goes, left_fits, left_ends}
use Rattle.listing.specs.Lines.{vertex_line, vertex_lines}
use Rattle.listing.proofs.Runs.{lines_rest, lines_end, point-within}
use Rattle.listing.proofs.vertices.put_vertices.Goals as goal

pub loop-p-init : goal.loop-p-init
loop-p-init c = left_starts c.args.at (vertex_lines c.args.n c.args.v c.args.points.now) c.args.buf.now c.requires.1

pub put_vertex-cur-requires : goal.put_vertex-cur-requires
put_vertex-cur-requires c =
    let v = c.args.v in
    let p = c.loop-p.p in
    let f = vertex_line c.args.n c.args.points.now in (
      record {
        axes = c.requires.0.axes;
        number = omega (arith, c.requires.0.vertices);
        within = point-within c.args.n c.args.v c.loop-p.p _ c.requires.0.long c.loop-p-test.true;
        ranged = c.requires.0.ranged;
      },
      left_fits (f p) (concat (drop (p + 1) (tabulate v f))) (rw (lines_rest v f p c.loop-p-test.true) at c.loop-p.invariant),
    )

pub loop-p-preserved : goal.loop-p-preserved
loop-p-preserved c =
    let v = c.args.v in
    let p = c.loop-p.p in
    let f = vertex_line c.args.n c.args.points.now in
    left_goes (f p) (concat (drop (p + 1) (tabulate v f))) _ _ (rw (lines_rest v f p c.loop-p-test.true) at c.loop-p.invariant)
    c.put_vertex-cur.ensures

pub shape_of-buf : goal.shape_of-buf
shape_of-buf c = c.loop-p.invariant.same

pub returns : goal.returns
returns c =
    let f = vertex_line c.args.n c.args.points.now in
    left_ends (rw (lines_end c.args.v f c.loop-p.p c.loop-p-test.false) at c.loop-p.invariant)
