-- `vertices_at` answers where a cell's vertices stand, and that all of them are within the file. Assumes nothing.
use mathlib.Core.Path.{◌≡◌, ap, ◌∙◌}
use native.Mathlib.Omega.{arith}
use Rattle.file.specs.File.{version_of, cell_head}
use Rattle.file.proofs.cells.vertices_at.Goals as goal

pub returns : goal.returns
returns c =
    let h : c.head.result ≡ cell_head (version_of c.args.b.now) = c.head.ensures.0 ∙ ap cell_head c.version.ensures.0 in
    (omega (arith, c.cell_at.ensures.0, h), omega (arith, c.cell_at.ensures.1, h))
