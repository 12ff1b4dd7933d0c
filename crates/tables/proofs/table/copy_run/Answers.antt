-- The goals that the search leaves. Assumes nothing.
use mathlib.Core.List.{List}
use mathlib.Core.Path.{sym, ap, ◌∙◌}
use Prim.Native.Nat.{ℕ, ◌+◌}
use native.Mathlib.Omega.{arith}
use lib.ListN.{length, get_or, length-set}
use lib.Seq.{take_all}
use Rattle.words.specs.Inner.Placed.{placed}
use Rattle.words.proofs.Placed.{placed-none}
use Rattle.words.proofs.Records.{tabulate-length}
use Rattle.tables.specs.Inner.Held.{run}
use Rattle.tables.proofs.Filling.{run_more, run_no_more}
use Rattle.tables.proofs.table.copy_run.Goals as goal
use Rattle.tables.proofs.table.copy_run.Goals.{then-j-n, else-j-n}

pub loop-j-init : goal.loop-j-init
loop-j-init c = (omega arith, sym (placed-none _ _))

pub loop-j-preserved : goal.loop-j-preserved
loop-j-preserved c =
    let l = c.loop-j in
    let a = c.args in (
      elim c.if-j-n.branch [
        | then-j-n w ↦ ap length w.table-is ∙ length-set l.table _ _ ∙ l.invariant.0
        | else-j-n w ↦ ap length w.table-is ∙ l.invariant.0
      ],
      elim c.if-j-n.branch [
        | then-j-n w ↦ run_more _ a.from _ _ a.words.now a.table.now _ c.if-j-n.table c.requires.2 l.invariant.1 w.if-j-n.true w.table-is
        | else-j-n w ↦ run_no_more _ a.from _ _ a.words.now a.table.now _ c.if-j-n.table c.requires.2 l.invariant.1 w.if-j-n.false w.table-is
      ],
    )

pub returns : goal.returns
returns c =
    let l = c.loop-j in
    let a = c.args in
    l.invariant.1 ∙ ap (λ (t : List ℕ). placed a.to t a.table.now) (take_all l.j (run a.n _ a.words.now)
    (omega (arith, tabulate-length a.n (λ (j : ℕ). get_or a.words.now (a.from + j) 0), c.requires.0)))
