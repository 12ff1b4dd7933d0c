-- The words of the cells.
--   one-length            how many of one
--   words_count           how many of all
--   cell-placed           a cell written in its three parts
-- Assumes nothing.
use mathlib.Core.Path.{◌≡◌, refl, sym, ap, ◌∙◌}
use mathlib.Core.List.{List, ◌∷◌, map}
use Prim.Native.Nat.{ℕ, suc, ◌+◌, ◌*◌, ◌<◌}
use native.Mathlib.Omega.{arith}
use lib.ListN.{length, get_or, set, length-set}
use Rattle.words.specs.Records.{concat}
use Rattle.words.specs.Inner.Placed.{placed}
use Rattle.words.proofs.Placed.{placed_cons}
use Rattle.words.proofs.Records.{length_tabulated, tabulate-map, tabulate_get_d}
use Rattle.words.proofs.Bytes.{words-length}
use Rattle.simplex.specs.Cell.{Cell, no_cell}
use Rattle.records.specs.Layout.{list_size, cell_words}
use Rattle.file.specs.File.{dimension_of, cell_count_of, file_length, file_cells}
use Rattle.file.specs.Tests.{cells_length, file_words}
use Rattle.file.proofs.Parts.{cell_place, head, cells-length, file_cell_lem, words_at}

pub cell-placed : (to x m : ℕ) (ws out end : List ℕ) → to + 1 < length out →
    end ≡ placed (to + 2) ws (set (set out to x) (to + 1) m) → end ≡ placed to (x ∷ m ∷ ws) out
cell-placed to x m ws out end h e =
    e ∙ ap (λ i. placed i ws (set (set out to x) (to + 1) m)) {x = to + 2} {y = to + 1 + 1} (omega arith)
    ∙ placed_cons (to + 1) m ws (set out to x) (omega (arith, length-set out to x))
    ∙ placed_cons to x (m ∷ ws) out (omega arith)

module _ (b : List ℕ) (whole : length b ≡ file_length b) where
  pub one-length : (p : ℕ) → p < cell_count_of b → length (cell_words (get_or (file_cells b) p no_cell)) ≡ list_size (dimension_of b)
  one-length p h =
      let d = dimension_of b in
      ap (λ c. length (cell_words c)) (file_cell_lem b whole p h)
      ∙ omega (
        arith,
        sym (ap length (words_at b whole p h (suc d) refl (cell_place b p) refl)),
        words-length b (cell_place b p + head b) (suc d),
      )

  pub words_count : length (file_words b) ≡ cells_length b
  unfolding file_words
  words_count =
      let cells = file_cells b in
      let size = list_size (dimension_of b) in
      let at : ℕ → Cell = λ p. get_or cells p no_cell in
      ap (λ cs. length (concat (map cell_words cs))) (sym (tabulate_get_d no_cell cells))
      ∙ ap (λ ws. length (concat ws)) (tabulate-map cell_words (length cells) at)
      ∙ length_tabulated size (length cells) (λ p. cell_words (at p)) (λ p h. one-length p (omega (arith, cells-length b)))
      ∙ ap (λ n. n * size) (cells-length b)
