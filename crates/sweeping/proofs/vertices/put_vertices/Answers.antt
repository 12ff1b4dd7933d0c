-- The goals that the search leaves. Assumes nothing.
use Rattle.std.proofs.Common.{◌≡◌, ◌+◌, ◌<◌, ◌≤◌, ap, ◌∙◌, add-one, arith}
use Rattle.prism.specs.Cells.{at_level}
use Rattle.sweeping.specs.Inner.SweptWords.{solid_vertex}
use Rattle.sweeping.proofs.Columns.{column-low, column_high, columns_all, columns_more, columns_none}
use Rattle.sweeping.proofs.vertices.put_vertices.Given.{Over}
use Rattle.sweeping.proofs.vertices.put_vertices.Goals as goal
use Rattle.sweeping.proofs.vertices.put_vertices.Goals.{After-from-x}

-- the vertex, below the count of vertices
low : (g : Over) (c : After-from-x g) → c.from-x.result < c.args.v
low g c =
    omega (arith, c.from-x.ensures, c.vertex.ensures, c.requires.ready.low c.args.p c.loop-j.j c.requires.at.1 (omega arith))

-- it is the vertex of this turn
is : (g : Over) (c : After-from-x g) → let a = c.args in
    c.from-x.result ≡ solid_vertex g.row.D a.s a.table.now a.p c.loop-j.j
is g c = c.from-x.ensures ∙ c.vertex.ensures

pub loop-j-init : goal.loop-j-init
loop-j-init g c = columns_none _ _ _ _

pub lift-requires : goal.lift-requires
lift-requires g c =
    (c.requires.ready.vertices, omega (arith, c.requires.at.0), low g c)

pub put_column-requires : goal.put_column-requires
put_column-requires g c =
    let a = c.args in
    let at = c.requires.at in
    let j = c.loop-j.j in
    let hj : j ≤ g.row.D = omega arith in record {
      ready = c.requires.ready;
      at = (at.0, at.1, hj, omega arith, omega arith, omega (arith, hj));
      word = (λ k l m. c.lift.ensures ∙ ap (at_level a.v a.i) (is g (goal.at.put_column-requires g c).After-from-x)
          ∙ column-low g.row.D a.v a.s a.table.now a.i a.p j k hj m);
      room = omega (arith, c.requires.room, c.loop-j.invariant.kept.outside.same);
    }

pub lift-requires-in-loop-j : goal.lift-requires-in-loop-j
lift-requires-in-loop-j g c =
    (c.requires.ready.vertices, omega (arith, c.requires.at.0), low g (goal.at.lift-requires-in-loop-j g c).After-from-x)

pub put_column-requires-in-loop-j : goal.put_column-requires-in-loop-j
put_column-requires-in-loop-j g c =
    let a = c.args in
    let at = c.requires.at in
    let j = c.loop-j.j in
    let hj : j ≤ g.row.D = omega arith in record {
      ready = c.requires.ready;
      at = (at.0, at.1, omega arith, omega arith, hj, omega arith);
      word = (λ k l m. c.lift-in-loop-j.ensures ∙ ap (at_level a.v (a.i + 1)) (is g (goal.at.put_column-requires-in-loop-j g c).After-from-x)
          ∙ ap (λ n. at_level a.v n (solid_vertex g.row.D a.s a.table.now a.p j)) (add-one a.i)
          ∙ column_high g.row.D a.v a.s a.table.now a.i a.p j k l m);
      room = omega (arith, c.requires.room, c.loop-j.invariant.kept.outside.same, c.put_column.ensures.kept.outside.same);
    }

pub loop-j-preserved : goal.loop-j-preserved
loop-j-preserved g c =
    columns_more _ _ _ _ c.loop-j.j _ _ _ c.loop-j.invariant c.put_column.ensures.kept c.put_column-in-loop-j.ensures.kept c.put_column.ensures.right
    c.put_column-in-loop-j.ensures.right

pub returns : goal.returns
returns g c = let i = c.loop-j.invariant in record {
  kept = i.kept;
  vertices = columns_all _ _ _ _ _ _ (omega arith) i;
}
