-- `face_line` writes its word, both slices of numbers and the line feed. Assumes nothing.
use mathlib.Core.Path.{ap}
use borrow.Author.Rules.{rules}
use Rattle.printing.specs.declared.line_writer.LineWriter.{LineWriter}
use Rattle.printing.proofs.FieldText.{line_of_two}
use Rattle.printing.proofs.Chain.{line_fits, feed_fits, line_ends}
use Rattle.printing.proofs.lines.face_line.Goals as goal

pub face_writer-w-requires : goal.face_writer-w-requires
face_writer-w-requires c =
    let a = c.args in
    line_fits a.at _ _ _ _ (line_of_two a.sign.now a.low.now a.high.now) _ c.requires

pub end-requires : goal.end-requires
end-requires c =
    let a = c.args in
    feed_fits a.at _ _ _ _ (line_of_two a.sign.now a.low.now a.high.now) _ _ c.face_writer-w.ensures c.requires

pub returns : goal.returns
returns c =
    let a = c.args in
    let same = ap (λ (w : LineWriter). w.buf.ghost_name) c.face_writer-w.ensures in
    line_ends a.at _ _ _ _ (line_of_two a.sign.now a.low.now a.high.now) _ _ c.face_writer-w.ensures c.requires _ _ _ c.end.ensures
    (search rules)
