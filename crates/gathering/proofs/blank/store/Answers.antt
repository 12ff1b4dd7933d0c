-- The goals that the search leaves. Assumes nothing.
use mathlib.Core.List.{List}
use mathlib.Core.Path.{◌≡◌, sym, ap, ◌∙◌}
use Prim.Native.Nat.{ℕ}
use native.Mathlib.Omega.{arith}
use lib.ListN.{length, take, length-set}
use lib.Seq.{get_or-take, length-take-le, take_all}
use Rattle.words.specs.Inner.Placed.{placed}
use Rattle.words.proofs.Placed.{placed-none}
use Rattle.gathering.proofs.Blanks.{list_more, list_no_more}
use Rattle.gathering.proofs.blank.store.Goals as goal
use Rattle.gathering.proofs.blank.store.Goals.{Start, else-j-n, then-j-n}

long : (s : Start) → length (take s.args.n s.args.row) ≡ s.args.n
long s = length-take-le s.args.n s.args.row (omega arith)

pub loop-j-init : goal.loop-j-init
loop-j-init c = (omega arith, sym (placed-none _ _))

pub loop-j-preserved : goal.loop-j-preserved
loop-j-preserved c =
    let l = c.loop-j in
    let a = c.args in (
      elim c.if-j-n.branch [
        | then-j-n w ↦ ap length w.table-is ∙ length-set l.table _ _ ∙ l.invariant.0
        | else-j-n w ↦ ap length w.table-is
            ∙ l.invariant.0
      ],
      elim c.if-j-n.branch [
        | then-j-n w ↦ list_more a.n a.to l.j (take a.n a.row) a.table.now l.table c.if-j-n.table (long (goal.at.loop-j-preserved c).Start)
            c.requires.2
            l.invariant.1 _ (sym (get_or-take a.n a.row l.j 0 w.if-j-n.true)) w.if-j-n.true w.table-is
        | else-j-n w ↦ list_no_more a.n a.to l.j (take a.n a.row) a.table.now l.table c.if-j-n.table (long (goal.at.loop-j-preserved c).Start)
            c.requires.2
            l.invariant.1 w.if-j-n.false w.table-is
      ],
    )

pub returns : goal.returns
returns c =
    let l = c.loop-j in
    let a = c.args in
    l.invariant.1 ∙ ap (λ (t : List ℕ). placed a.to t a.table.now)
    (take_all l.j (take a.n a.row) (omega (arith, long (goal.at.returns c).Start, c.requires.0)))
