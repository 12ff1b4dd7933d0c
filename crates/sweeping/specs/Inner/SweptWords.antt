-- The words of a sweep in the order in which they are written. `ws` are the words of the solid's table.
--   solid_entries, solid_wing   its entries, and its wings by cell and position
--   record_words .. i p k      the record of cell k over cell p at level i
--   prism_words .. i p         the records over cell p at level i
--   level_words .. i           those of level i
--   all_words                  those of all levels
--   Ready d v s h ws          what a sound table of numbers within the limits gives
use Rattle.std.specs.Prelude.{◌≡◌, ℕ, suc, ◌<◌, ◌≤◌, List, length, ◌≢◌, slice_index}
use Rattle.words.specs.Records.{tabulate, concat}
use Rattle.rules.specs.Limits.{max_source, max_vertices, max_cells, swept_vertices}
use Rattle.records.specs.Layout.{empty, Entry, entries_of, entry_words, table_length}
use Rattle.solids.specs.Table.{entry_at, wing_at}
use Rattle.prism.specs.Wings.{back_to}
use Rattle.prism.specs.Swept.{swept_entry, swept_cells}

unfoldable pub solid_entries : ℕ → ℕ → List ℕ → List Entry
solid_entries d s ws = entries_of d s ws

abbrev pub solid_wing : ℕ → ℕ → List ℕ → ℕ → ℕ → ℕ
solid_wing d s ws = wing_at (solid_entries d s ws)

abbrev pub solid_vertex : ℕ → ℕ → List ℕ → ℕ → ℕ → ℕ
solid_vertex d s ws p k = slice_index (entry_at (solid_entries d s ws) p).cell.row k

module _ (d v s h : ℕ) (ws : List ℕ) where
  unfoldable pub record_words : ℕ → ℕ → ℕ → List ℕ
  record_words i p k = entry_words (swept_entry d v s h (solid_entries d s ws) i p k)

  unfoldable pub prism_words : ℕ → ℕ → List ℕ
  prism_words i p = concat (tabulate (suc d) (record_words i p))

  unfoldable pub level_words : ℕ → List ℕ
  level_words i = concat (tabulate s (prism_words i))

  unfoldable pub all_words : List ℕ
  all_words = concat (tabulate h level_words)

  pub record Ready : Type 0 where
    pub dimension : d ≤ max_source
    pub vertices : swept_vertices v h ≤ max_vertices
    pub cells : swept_cells d s h ≤ max_cells
    pub long : length ws ≡ table_length d s
    pub low : (p k : ℕ) → p < s → k ≤ d → solid_vertex d s ws p k < v
    pub across : (p a : ℕ) → p < s → a ≤ d → (solid_wing d s ws p a ≢ empty) → solid_wing d s ws p a < s
    pub back : (p a : ℕ) → p < s → a ≤ d → (solid_wing d s ws p a ≢ empty) →
        back_to (solid_wing d s ws) p (solid_wing d s ws p a) d ≤ d
