-- `key::put_key` meets its contract: the first line, the vertices, the faces. Assumes nothing.
use native.Mathlib.Omega.{arith}
use Rattle.words.proofs.Writing.{left_fits}
use Rattle.boundary.proofs.Sizes.{faces-few}
use Rattle.listing.specs.Lines.{vertex_lines}
use Rattle.listing.proofs.KeyText.{first_fits, vertices_left, faces_left, key_put}
use Rattle.listing.proofs.key.put_key.Goals as goal

pub overflow_cast-counts-4 : goal.overflow_cast-counts-4
overflow_cast-counts-4 c = omega (arith, c.requires.2, faces-few c.args.d c.args.s c.args.table.now c.requires.0)

pub first_line-first-requires : goal.first_line-first-requires
first_line-first-requires c =
    let a = c.args in
    first_fits a.version a.d a.n a.v a.points.now _ a.faces c.requires.2 a.buf.now c.requires.3

pub put_vertices-vertices-requires : goal.put_vertices-vertices-requires
put_vertices-vertices-requires c =
    let a = c.args in
    let left =
    vertices_left a.version a.d a.n a.v a.points.now _ a.faces c.requires.2 a.buf.now c.requires.3 c.first_line-first.ensures in
    (c.requires.1, left_fits (vertex_lines a.n a.v a.points.now) _ left)

pub put_faces-requires : goal.put_faces-requires
put_faces-requires c =
    let a = c.args in
    let left = faces_left a.version a.d a.n a.v a.points.now _ a.faces c.requires.2 a.buf.now c.requires.3
    c.first_line-first.ensures c.put_vertices-vertices.ensures in
    (c.requires.0, left.room)

pub returns : goal.returns
returns c =
    let a = c.args in
    key_put a.version a.d a.n a.v a.points.now _ a.faces c.requires.2 a.buf.now c.requires.3
    c.first_line-first.ensures c.put_vertices-vertices.ensures c.put_faces.ensures
