-- The solid's entries, vertices and wings, as the readers of a table give them.
--   solid-entry           entry p
--   solid-vertex, solid_wing_lem      its vertices and wings
--   solid-row-long        it has d + 1 vertices
-- Assumes nothing.
use Rattle.std.proofs.Common.{◌≡◌, ℕ, suc, ◌<◌, List, [], length, get_or, ap, ◌∙◌}
use Rattle.words.specs.Records.{part}
use Rattle.simplex.specs.Cell.{no_cell}
use Rattle.records.specs.Layout.{Entry, empty, record_size, table_length, entry_in}
use Rattle.records.specs.Inner.Inside.{vertex_in, wing_in}
use Rattle.records.proofs.Places.{record_long, row-long, entry_at_lem}
use Rattle.solids.specs.Table.{entry_at}
use Rattle.sweeping.specs.Inner.SweptWords.{solid_entries, solid_vertex, solid_wing}

module _ (d s : ℕ) (ws : List ℕ) (p : ℕ) (hp : p < s) where
  pub solid-entry : entry_at (solid_entries d s ws) p ≡ entry_in d ws p
  unfolding solid_entries
  solid-entry = entry_at_lem d s p ws (record { cell = no_cell; wings = [] }) hp

  pub solid-vertex : (k : ℕ) → solid_vertex d s ws p k ≡ vertex_in d ws p k
  solid-vertex k = ap (λ (e : Entry). get_or e.cell.row k 0) solid-entry

  pub solid_wing_lem : (a : ℕ) → solid_wing d s ws p a ≡ wing_in d ws p a
  solid_wing_lem a = ap (λ (e : Entry). get_or e.wings a empty) solid-entry

  pub solid-row-long : length ws ≡ table_length d s → length (entry_at (solid_entries d s ws) p).cell.row ≡ suc d
  solid-row-long long =
      ap (λ (e : Entry). length e.cell.row) solid-entry
      ∙ row-long d (part (record_size d) p ws) (record_long d s p ws hp long)
