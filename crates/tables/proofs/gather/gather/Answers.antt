-- The goals that the search leaves. Assumes nothing.
use mathlib.Core.Path.{◌∙◌}
use Prim.Native.Nat.{suc}
use native.Mathlib.Nat.{suc-mul, mul-le-mul_right}
use native.Mathlib.Omega.{arith}
use borrow.Author.Count.{below_none, below_more}
use Rattle.tables.proofs.gather.gather.Goals as goal

pub loop-p-init : goal.loop-p-init
loop-p-init c = (c.requires.rows_len.0, c.requires.rows_len.1, below_none _)

pub gather_cell-requires : goal.gather_cell-requires
gather_cell-requires c =
    let a = c.args in
    let l = c.loop-p in
    let inside = mul-le-mul_right {m = suc l.p} {n = a.s} a.size (omega arith) in
    record {
      d_bound = (omega arith, omega arith, omega arith, omega arith, omega (arith, inside, suc-mul l.p a.size));
      rows_len = (l.invariant.0, l.invariant.1);
    }

pub loop-p-preserved : goal.loop-p-preserved
loop-p-preserved c =
    let l = c.loop-p in
    let g = c.gather_cell.ensures in
    (g.wide, g.many, below_more _ _ (λ q h. g.old q h ∙ l.invariant.2 q h) g.new)

pub returns : goal.returns
returns c = record {
  rows_len_2 = (c.loop-p.invariant.0, c.loop-p.invariant.1);
  by_index = (λ p h. c.loop-p.invariant.2 p (omega arith));
}
