-- `write_level` writes the moved points of a level: a copy that is then moved. Assumes nothing.
use mathlib.Core.Path.{◌∙◌}
use Prim.Native.Nat.{◌*◌}
use native.Mathlib.Omega.{arith}
use Rattle.points.proofs.Writing.{copied, level_copied}
use Rattle.points.proofs.levels.write_level.Goals as goal

pub returns : goal.returns
returns c =
    let a = c.args in
    let copy = copied (a.v * a.n) a.from a.to a.out.now _ (omega arith) c.copy_within.ensures.after in
    (rw copy at c.move_level.ensures)
    ∙ (level_copied a.step a.n a.v a.from a.to a.out.now c.requires.n_bound.0 c.requires.n_bound.1)
