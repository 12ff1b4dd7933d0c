-- The table of a sweep in h steps. Paper, section 4.
--   swept_entry d v s h es i p k    the entry of cell k over cell p at level i
--   swept_table d v s h es          the entries over level i, cell p and cell k, in this order
--   swept_cells d s h               how many there are
use Rattle.std.specs.Prelude.{List, ℕ, suc, ◌*◌}
use Rattle.words.specs.Records.{tabulate, concat}
use Rattle.records.specs.Layout.{Entry}
use Rattle.solids.specs.Table.{entry_at, wing_at}
use Rattle.prism.specs.Cells.{prism_cell}
use Rattle.prism.specs.Wings.{swept_wing}

abbrev pub swept_entry : ℕ → ℕ → ℕ → ℕ → List Entry → ℕ → ℕ → ℕ → Entry
swept_entry d v s h es i p k =
    record { cell = prism_cell v i k (entry_at es p).cell; wings = tabulate (suc (suc d)) (swept_wing d s h (wing_at es) i p k) }

abbrev pub swept_table : ℕ → ℕ → ℕ → ℕ → List Entry → List Entry
swept_table d v s h es = concat (tabulate h (λ i. concat (tabulate s (λ p. tabulate (suc d) (swept_entry d v s h es i p)))))

abbrev pub swept_cells : ℕ → ℕ → ℕ → ℕ
swept_cells d s h = h * (s * suc d)
