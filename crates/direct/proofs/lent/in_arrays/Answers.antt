-- The arrays are cut to the lengths of the list and of its table. Assumes nothing.
use mathlib.Core.Path.{ap, sym, ◌∙◌}
use mathlib.Core.Bool.{not}
use Prim.Native.Nat.{◌≤◌}
use native.Mathlib.Omega.{arith}
use lib.ListN.{length}
use lib.Seq.{length-take-le}
use Rattle.rules.specs.Limits.{max_dimension}
use Rattle.rules.proofs.InLimits.{Limits, limits_are}
use Rattle.direct.proofs.lent.in_arrays.Goals as goal
use Rattle.direct.proofs.lent.in_arrays.Goals.{After-list_words-n, After-table_words-m, Start}

limits : (s : Start) → Limits max_dimension s.args.d s.args.v s.args.s
limits s = limits_are max_dimension s.args.d s.args.v s.args.s (ap not s.requires.lent.0.shape)

list_fits : (c : After-list_words-n) → let a = (c.args) in c.list_words-n.result ≤ length a.list.now
list_fits c = omega (arith, c.list_words-n.ensures, c.requires.s_in_bounds.0)

table_fits : (c : After-table_words-m) → let a = (c.args) in c.table_words-m.result ≤ length a.words.now
table_fits c = omega (arith, c.table_words-m.ensures, c.requires.s_in_bounds.1)

pub list_words-n-requires : goal.list_words-n-requires
list_words-n-requires c = let l = limits (goal.at.list_words-n-requires c).Start in (l.dimension, l.cells)

pub table_words-m-requires : goal.table_words-m-requires
table_words-m-requires c = let l = limits (goal.at.table_words-m-requires c).Start in (l.dimension, l.cells)

pub slice_bounds-write_lent-end : goal.slice_bounds-write_lent-end
slice_bounds-write_lent-end c = list_fits (goal.at.slice_bounds-write_lent-end c).After-list_words-n

pub slice_bounds-write_lent-end-2 : goal.slice_bounds-write_lent-end-2
slice_bounds-write_lent-end-2 c = sym (length-take-le _ _ (list_fits (goal.at.slice_bounds-write_lent-end-2 c).After-list_words-n))

pub slice_bounds-write_lent-end-3 : goal.slice_bounds-write_lent-end-3
slice_bounds-write_lent-end-3 c = table_fits (goal.at.slice_bounds-write_lent-end-3 c).After-table_words-m

pub slice_bounds-write_lent-end-4 : goal.slice_bounds-write_lent-end-4
slice_bounds-write_lent-end-4 c = sym (length-take-le _ _ (table_fits (goal.at.slice_bounds-write_lent-end-4 c).After-table_words-m))

pub write_lent-requires : goal.write_lent-requires
write_lent-requires c =
    record {
      lent = c.requires.lent;
      list_len = (
        length-take-le _ _ (list_fits (goal.at.write_lent-requires c).After-list_words-n) ∙ c.list_words-n.ensures,
        length-take-le _ _ (table_fits (goal.at.write_lent-requires c).After-table_words-m) ∙ c.table_words-m.ensures,
      );
    }
