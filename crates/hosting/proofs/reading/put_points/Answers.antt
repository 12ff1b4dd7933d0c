-- `put_points` writes the points as they stand in the file. Assumes nothing.
use Rattle.hosting.proofs.ReadRows.{points_put}
use Rattle.hosting.proofs.reading.put_points.Goals as goal

pub returns : goal.returns
returns c =
    points_put c.args.file.now _ c.args.points.now _ c.cells_start-end.ensures.0 c.put_text.ensures.content
