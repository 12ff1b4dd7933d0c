-- `vertices::vertex_len` meets its contract: what is counted and what is left make the line. Assumes nothing.
use mathlib.Core.List.{map}
use mathlib.Core.Path.{◌≡◌}
use Prim.Native.Nat.{◌+◌}
use lib.ListN.{drop, length}
use Rattle.printing.specs.Decimal.{coordinate}
use Rattle.printing.specs.Fields.{rest_of_line}
use Rattle.listing.specs.Lines.{vertex_line}
use Rattle.listing.proofs.vertices.vertex_len.Given as goal

abbrev pub invariant-loop-x : goal.invariant-loop-x
invariant-loop-x l =
    l.count + length (rest_of_line (map coordinate (drop l.x-index l.x-items))) ≡ 1 + length (vertex_line l.n l.points l.p)
