-- `key::key_size` meets its contract: the sum of the three parts. Assumes nothing.
use mathlib.Core.List.{◌++◌}
use mathlib.Core.Path.{ap, ◌∙◌}
use Prim.Native.Nat.{ℕ, ◌≤◌}
use native.Mathlib.Omega.{arith}
use lib.ListN.{length-append, length}
use Rattle.boundary.specs.Inner.Walk.{table_faces}
use Rattle.listing.specs.Lines.{first_line, vertex_lines, face_lines, key_text}
use Rattle.listing.proofs.Bounds.{vertices-length}
use Rattle.listing.proofs.key.key_size.Goals as goal
use Rattle.listing.proofs.key.key_size.Goals.{After-vertices_len}

-- the bytes of the vertex lines
few : (c : After-vertices_len) → c.vertices_len.result ≤ 1048576
few c =
    omega (arith, c.vertices_len.ensures, vertices-length c.args.n c.args.v c.args.points.now c.requires.1.axes, c.requires.1.vertices)

pub overflow_add-bytes : goal.overflow_add-bytes
overflow_add-bytes c = omega (arith, c.first_len.ensures.upper_bound, few c)

pub overflow_add-bytes-2 : goal.overflow_add-bytes-2
overflow_add-bytes-2 c =
    omega (arith, c.first_len.ensures.upper_bound, few (goal.at.overflow_add-bytes-2 c).After-vertices_len, c.faces_size-faces.ensures.count_bound.1)

pub returns : goal.returns
unfolding key_text
returns c =
    let d = c.args.d in
    let n = c.args.n in
    let v = c.args.v in
    let ps = c.args.points.now in
    let fs = table_faces d c.args.s c.args.table.now in
    let size = c.faces_size-faces.ensures.size_of in
    let first = c.first_len.ensures.value ∙ ap (λ (k : ℕ). length (first_line d n v k)) size.faces in
    record {
      faces = size.faces;
      text = omega (
        arith,
        first,
        c.vertices_len.ensures,
        size.bytes,
        length-append (first_line d n v (length fs)) (vertex_lines n v ps ++ face_lines c.args.version fs),
        length-append (vertex_lines n v ps) (face_lines c.args.version fs),
      );
    }
