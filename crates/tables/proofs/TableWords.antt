-- The words of the table of what is held.
use mathlib.Core.Path.{◌≡◌, sym, ap, ap₂, ◌∙◌}
use mathlib.Core.Bool.{false}
use mathlib.Core.List.{List, [], ◌∷◌, ◌++◌, map}
use Prim.Native.Nat.{ℕ, suc, ◌*◌, ◌≤◌, ◌<◌, ◌+◌}
use native.Mathlib.Omega.{arith}
use native.Mathlib.Numerals.{add-one}
use lib.ListN.{length, get_or, take}
use Rattle.words.specs.Records.{concat, part, tabulate}
use Rattle.words.proofs.Records.{tabulate_ext, tabulate_get_d, tabulate-map}
use Rattle.simplex.specs.Cell.{Cell, Row, Sign, no_cell}
use Rattle.simplex.specs.Faces.{without}
use Rattle.simplex.proofs.Each.{All}
use Rattle.simplex.proofs.Rows.{Long}
use Rattle.tables.specs.Inner.Held.{Winged, cell_held, held_cells, held_words, record_held, run}
use Rattle.simplex.specs.SignWords.{sign_word}
use Rattle.records.specs.Layout.{Entry, entry_words, table_words}
use Rattle.solids.specs.Table.{entry_at, table_of}
use Rattle.solids.specs.Wings.{neighbour, wings_of}
use Rattle.tables.proofs.Adjacent.{held_at, held_length, held_long, held_vertex}
use Rattle.tables.proofs.Filling.{is_tabulated}
use Rattle.solids.proofs.Solid.{all_at}
use Rattle.solids.proofs.Tables.{cell_at, entries_length, table_at, wings_tabulated}

module _ (d s : ℕ) (rows : List ℕ) (signs : List Sign) (made : ℕ → ℕ) (wings : List ℕ) (hd : d ≤ 7) (hs : s ≤ 4096)
    (wide : length rows ≡ 32768) (winged : Winged d (held_cells d s rows signs made) wings) where
  count : length (held_cells d s rows signs made) ≡ s
  count = held_length d s rows signs made hd hs wide

  long : All (Long (suc d)) (held_cells d s rows signs made)
  long = held_long d s rows signs made hd hs wide

  many : length (table_of (held_cells d s rows signs made)) ≡ s
  many = entries_length (held_cells d s rows signs made) 0 (held_cells d s rows signs made) ∙ count

  -- record p
  module _ (p : ℕ) (hp : p < s) where
    abbrev row : Row
    row = take (suc d) (part 8 p rows)

    abbrev wing : ℕ → ℕ
    wing j = neighbour p (without j (take (suc d) (part 8 p rows))) (held_cells d s rows signs made)

    cell_is : cell_at (held_cells d s rows signs made) p ≡ cell_held d rows signs made p
    cell_is = held_at d s rows signs made hd hs wide p hp

    row-length : length row ≡ suc d
    row-length =
        ap (λ (c : Cell). length c.row) (sym cell_is) ∙ all_at (Long (suc d)) (held_cells d s rows signs made) long p (omega (arith, count))

    entry_is : entry_words (entry_at (table_of (held_cells d s rows signs made)) p)
        ≡ sign_word (get_or signs p false) ∷ made p ∷ (row ++ tabulate (suc d) wing)
    entry_is =
        ap entry_words (table_at (held_cells d s rows signs made) p (omega (arith, count))
        ∙ ap (λ (c : Cell). record { cell = c; wings = wings_of (held_cells d s rows signs made) p c }) cell_is)
        ∙ ap (λ (ws : List ℕ). sign_word (get_or signs p false) ∷ made p ∷ (row ++ ws))
        (wings_tabulated (held_cells d s rows signs made) p (cell_held d rows signs made p) ∙ ap (λ n. tabulate n wing) row-length)

    row-run : row ≡ run (d + 1) (p * 8) rows
    row-run =
        is_tabulated (suc d) (λ j. get_or rows (p * 8 + j) 0) row row-length (λ j l. sym (held_vertex d s rows signs made hd hs wide p j l))
        ∙ ap (λ n. run n (p * 8) rows) (sym (add-one d))

    wing_run : tabulate (suc d) wing ≡ run (d + 1) (p * (d + 1)) wings
    wing_run =
        tabulate_ext (suc d) wing (λ j. get_or wings (p * suc d + j) 0)
        (λ j l. ap (λ (c : Cell). neighbour p (without j c.row) (held_cells d s rows signs made)) (sym cell_is)
        ∙ sym (winged p j (omega (arith, count)) l))
        ∙ ap (λ n. run n (p * n) wings) (sym (add-one d))

    record_is : entry_words (entry_at (table_of (held_cells d s rows signs made)) p) ≡ record_held d rows signs wings (made p) p
    unfolding record_held
    record_is = entry_is ∙ ap₂ {C = List ℕ} (λ r ws. sign_word (get_or signs p false) ∷ made p ∷ (r ++ ws)) row-run wing_run

  pub table-words : table_words (table_of (held_cells d s rows signs made)) ≡ held_words d s rows signs made wings
  unfolding held_words
  table-words =
      let es : List Entry = table_of (held_cells d s rows signs made) in
      ap concat
      (ap (map entry_words) (sym (tabulate_get_d (record { cell = no_cell; wings = [] }) es)) ∙ tabulate-map entry_words (length es) (entry_at es)
      ∙ ap (λ n. tabulate n (λ p. entry_words (entry_at es p))) many
      ∙ tabulate_ext s (λ p. entry_words (entry_at es p)) (λ p. record_held d rows signs wings (made p) p) record_is)
