-- `vertices::put_vertices` meets its contract, line by line. Assumes nothing.
use lib.ListN.{drop}
use Rattle.words.specs.Records.{tabulate, concat}
use Rattle.words.proofs.Writing.{Left}
use Rattle.listing.specs.Lines.{vertex_line, vertex_lines}
use Rattle.listing.proofs.vertices.put_vertices.Given as goal

abbrev pub invariant-loop-p : goal.invariant-loop-p
invariant-loop-p l =
    Left l.at (vertex_lines l.n l.v l.points) l.initial.buf l.cur (concat (drop l.p (tabulate l.v (vertex_line l.n l.points)))) l.buf
