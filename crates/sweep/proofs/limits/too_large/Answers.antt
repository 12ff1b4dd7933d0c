-- Row 12: swept vertices or cells over the limit. Assumes nothing.
use Rattle.rules.proofs.InLimits.{SweepLimits, sweep_limits_are}
use Rattle.sweep.proofs.limits.too_large.Goals as goal
use Rattle.sweep.proofs.limits.too_large.Goals.{Start}

limits : (c : Start) → let a = c.args in SweepLimits a.d a.v a.s a.h
limits c = sweep_limits_are _ _ _ _ c.requires

pub swept_vertices-requires : goal.swept_vertices-requires
swept_vertices-requires c = ((limits c).vertices, (limits c).steps)

pub swept_cells-requires : goal.swept_cells-requires
swept_cells-requires c = let l = limits (goal.at.swept_cells-requires c).Start in (l.dimension, l.cells, l.steps)
