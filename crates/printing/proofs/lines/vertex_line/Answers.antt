-- `vertex_line` writes its word, the number, the coordinates and the line feed. Assumes nothing.
use mathlib.Core.Path.{ap}
use borrow.Author.Rules.{rules}
use Rattle.printing.specs.declared.line_writer.LineWriter.{LineWriter}
use Rattle.printing.proofs.FieldText.{line_of_points}
use Rattle.printing.proofs.Chain.{line_fits, feed_fits, line_ends}
use Rattle.printing.proofs.lines.vertex_line.Goals as goal

pub vertex_writer-w-requires : goal.vertex_writer-w-requires
vertex_writer-w-requires c =
    let a = c.args in
    (c.requires.0, line_fits a.at _ _ _ _ (line_of_points a.word.now a.number.now a.point.now) _ c.requires.1)

pub end-requires : goal.end-requires
end-requires c =
    let a = c.args in
    feed_fits a.at _ _ _ _ (line_of_points a.word.now a.number.now a.point.now) _ _ c.vertex_writer-w.ensures c.requires.1

pub returns : goal.returns
returns c =
    let a = c.args in
    let same = ap (λ (w : LineWriter). w.buf.ghost_name) c.vertex_writer-w.ensures in
    line_ends a.at _ _ _ _ (line_of_points a.word.now a.number.now a.point.now) _ _ c.vertex_writer-w.ensures c.requires.1 _ _ _ c.end.ensures
    (search rules)
