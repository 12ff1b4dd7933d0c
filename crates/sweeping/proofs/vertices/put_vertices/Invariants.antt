-- The loop has put the first j vertices. Assumes nothing.
use Rattle.sweeping.specs.Inner.SweptWords.{prism_words}
use Rattle.sweeping.proofs.Columns.{Columns}
use Rattle.sweeping.proofs.vertices.put_vertices.Given as goal

abbrev pub invariant-loop-j : goal.invariant-loop-j
invariant-loop-j g l = Columns g.row.D l.at (prism_words g.row.D l.v l.s l.h l.table l.i l.p) l.initial.out l.j l.out
