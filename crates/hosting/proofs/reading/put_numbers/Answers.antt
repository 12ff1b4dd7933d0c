-- `put_numbers` writes eight words. Assumes nothing.
use mathlib.Core.Path.{◌∙◌}
use lib.ListN.{drop}
use Rattle.hosting.proofs.ReadRows.{numbers_put}
use Rattle.hosting.proofs.reading.put_numbers.Goals as goal

pub returns : goal.returns
returns c =
    c.encode.ensures
    ∙ numbers_put c.args.file.now _ _ _ _ _ (drop 16 c.args.header.now)
    c.dimension.ensures.0 c.axes.ensures.0
    c.vertex_count.ensures.0 c.cell_count.ensures.0 c.steps.ensures.0
