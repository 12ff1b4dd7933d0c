-- `vertices::put_vertex` meets its contract: its line is the word, the number and the point's coordinates. Assumes nothing.
use Rattle.listing.proofs.Runs.{vertex-line, point-ranged}
use Rattle.listing.proofs.vertices.put_vertex.Goals as goal

pub vertex_line-requires : goal.vertex_line-requires
vertex_line-requires c = (
  point-ranged c.args.n c.args.p c.args.points.now c.requires.0.within c.requires.0.ranged,
  rw (vertex-line c.args.n c.args.p c.args.points.now) at c.requires.1,
)

pub returns : goal.returns
returns c =
    rw (vertex-line c.args.n c.args.p c.args.points.now) c.vertex_line.ensures
