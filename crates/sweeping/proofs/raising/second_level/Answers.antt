-- Stepped from the level below, and joined. Assumes nothing.
use Rattle.std.proofs.Common.{◌≡◌, suc, ◌+◌, ◌*◌, ◌≤◌, sym, ap, ◌∙◌, mul-le-mul_right, mul_assoc, suc-mul, one-mul, add-one, arith}
use Rattle.rules.specs.Limits.{max_cells, max_vertices}
use Rattle.records.specs.Layout.{record_size}
use Rattle.sweeping.proofs.RaisedLevel.{stepped_level}
use Rattle.sweeping.proofs.SweptWords.{level-long}
use Rattle.sweeping.proofs.raising.second_level.Given.{Over}
use Rattle.sweeping.proofs.raising.second_level.Goals as goal
use Rattle.sweeping.proofs.raising.second_level.Goals.{Start}

-- the cells of a level are few
few : (g : Over) (s : Start g) → s.args.s * suc g.row.D ≤ max_cells
few g s =
    let a = s.args in
    omega (
      arith,
      s.requires.ready.cells,
      one-mul (a.s * suc g.row.D),
      mul-le-mul_right {m = 1} {n = a.h} (a.s * suc g.row.D) (omega (arith, s.requires.at.0)),
    )

cells : (g : Over) (s : Start g) → s.args.s * (g.row.D + 1) ≡ s.args.s * suc g.row.D
cells g s = ap (λ m. s.args.s * m) (add-one g.row.D)

vertices : (g : Over) (s : Start g) → s.args.v ≤ max_vertices
vertices g s =
    let a = s.args in
    omega (arith, s.requires.ready.vertices, suc-mul a.h a.v)

size : (g : Over) (s : Start g) → s.args.n ≡ s.args.s * (g.row.D + 1) * record_size (suc g.row.D)
size g s = let a = s.args in s.requires.at.1 ∙ sym (mul_assoc a.s (g.row.D + 1) (record_size (suc g.row.D)))

pub step_level-requires : goal.step_level-requires
step_level-requires g c = (
  c.requires.ready.dimension,
  vertices g (goal.at.step_level-requires g c).Start,
  omega (arith, few g (goal.at.step_level-requires g c).Start, cells g (goal.at.step_level-requires g c).Start),
  size g (goal.at.step_level-requires g c).Start,
  c.requires.room,
)

pub join-requires : goal.join-requires
join-requires g c =
    let a = c.args in
    record {
      ready = c.requires.ready;
      at = c.requires.at.0;
      room = omega (
        arith,
        c.requires.room,
        c.requires.at.1,
        c.step_level.ensures.outside.same,
        level-long g.row.D a.v a.s a.h a.table.now c.requires.ready.long 1,
      );
    }

pub returns : goal.returns
returns g c =
    let a = c.args in
    stepped_level g.row.D a.v a.s a.h a.table.now c.requires.ready a.n c.requires.at.0 c.requires.at.1 a.out.now _ _ c.requires.room c.requires.below
    (a.s * (g.row.D + 1)) (cells g (goal.at.returns g c).Start) c.step_level.ensures c.join.ensures.kept c.join.ensures.below c.join.ensures.above
