-- `read` answers what `read_cells` does, and leaves the points as `read_points` says. Assumes nothing.
use lib.ListN.{length}
use Rattle.std.proofs.lemmas.Result.{err_from_is_err_and}
use Rattle.read.specs.Read.{ReadInput, read_input}
use Rattle.read.proofs.Order.{passed_by, points_kept, points_put}
use Rattle.read.proofs.read.Goals as goal
use Rattle.read.proofs.read.Goals.{Start}

abbrev input : Start → ReadInput
input c = read_input c.args.bytes.now (length c.args.cells.now) (length c.args.points.now)

pub write_points-requires : goal.write_points-requires
write_points-requires c =
    let f = passed_by (input (goal.at.write_points-requires c).Start) _ c.in_ok-header.ensures.answer in
    (f.whole, f.floats, f.points)

pub returns-clause-points : goal.returns-clause-points
returns-clause-points c =
    points_put (input (goal.at.returns-clause-points c).Start) _ _ _ c.in_ok-header.ensures.answer c.write_points.ensures

pub returns-in_err-header : goal.returns-in_err-header
returns-in_err-header c =
    let p = err_from_is_err_and c.from_residual.result c.from_residual.ensures.1 in
    let answer = c.in_err-header.ensures.answer in
    record {
      answer = rw (p.1, p.2) answer;
      cells = c.read_cells.ensures.cells;
      points = points_kept (input (goal.at.returns-in_err-header c).Start) _ _ answer;
    }
