-- `fields::put_points` meets its contract, field by field. Assumes nothing.
use lib.ListN.{drop}
use Rattle.words.proofs.Writing.{Left}
use Rattle.printing.specs.Fields.{point_fields}
use Rattle.printing.proofs.fields.put_points.Given as goal

abbrev pub invariant-loop-point : goal.invariant-loop-point
invariant-loop-point l =
    Left l.at (point_fields l.points) l.initial.buf l.cur (point_fields (drop l.point-index l.points)) l.buf
