-- `vertices::vertices_len` meets its contract: what is counted and what is left make the lines. Assumes nothing.
use mathlib.Core.Path.{◌≡◌}
use Prim.Native.Nat.{◌+◌}
use lib.ListN.{drop, length}
use Rattle.words.specs.Records.{tabulate, concat}
use Rattle.listing.specs.Lines.{vertex_line, vertex_lines}
use Rattle.listing.proofs.vertices.vertices_len.Given as goal

abbrev pub invariant-loop-p : goal.invariant-loop-p
invariant-loop-p l =
    l.count + length (concat (drop l.p (tabulate l.v (vertex_line l.n l.points)))) ≡ length (vertex_lines l.n l.v l.points)
