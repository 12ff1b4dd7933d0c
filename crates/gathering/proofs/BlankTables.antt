-- The records of a table whose wings are all empty.
--   blank-long            how many words a record has
--   blank-length          and the table
--   blank-cell, blank_wing    cell p, and each of its wings
--   blank_fine            cell p is fine where the list's is
--   blank_whole           the table written over words of its length
-- Assumes nothing.
use mathlib.Core.Path.{◌≡◌, refl, ap, ◌∙◌}
use mathlib.Core.Bool.{true, false}
use mathlib.Core.List.{List, ◌++◌, append-nil}
use Prim.Native.Nat.{ℕ, suc, ◌≤◌, ◌<◌}
use native.Mathlib.Omega.{arith}
use lib.ListN.{length, get_or, replicate, length-append, length-drop, length-replicate, get_or-replicate, drop_of_length-le}
use lib.Seq.{take_at, drop_at}
use Rattle.words.specs.Records.{part}
use Rattle.words.specs.Inner.Placed.{placed}
use Rattle.words.proofs.Placed.{placed_first}
use Rattle.words.proofs.Records.{length_tabulated, part_tabulated}
use Rattle.simplex.specs.Cell.{Cell, Sign}
use Rattle.simplex.specs.Order.{ascending}
use Rattle.simplex.specs.SignWords.{sign_word}
use Rattle.simplex.proofs.Sorting.{sorted-length}
use Rattle.records.specs.Layout.{empty, cell_in, cell_of, cell_words, entry_in, entry_of, list_length, list_size, record_size, table_length}
use Rattle.records.specs.Inner.Inside.{wing_in}
use Rattle.records.proofs.Parts.{part-long}
use Rattle.solids.proofs.Codec.{cell-back}
use Rattle.soundness.specs.Inner.Certified.{Fine}
use Rattle.gathering.specs.Inner.Gathering.{FineCell, blank_table, blank_words}

-- the record of a cell
module _ (d : ℕ) (c : Cell) (long : length c.row ≡ suc d) where
  words_long : length (blank_words d c) ≡ record_size d
  unfolding blank_words
  words_long = omega (arith, length-append (cell_words c) (replicate (suc d) empty), length-replicate {A = ℕ} (suc d) empty)

  words-cell : (entry_of d (blank_words d c)).cell ≡ c
  unfolding blank_words
  words-cell = ap cell_of (take_at (cell_words c) (replicate (suc d) empty) (list_size d) (omega arith)) ∙ cell-back c

  words-wings : (entry_of d (blank_words d c)).wings ≡ replicate (suc d) empty
  unfolding blank_words
  words-wings = drop_at (cell_words c) (replicate (suc d) empty) (list_size d) (omega arith)

words-sign : (d : ℕ) (c : Cell) → get_or (blank_words d c) 0 0 ≡ sign_word c.sign
unfolding blank_words
words-sign d c = refl

sign_small : (t : Sign) → sign_word t ≤ 1
sign_small true = omega arith
sign_small false = omega arith

-- the row of cell p of a list
pub listed-long : (d s : ℕ) (cells : List ℕ) → length cells ≡ list_length d s → (p : ℕ) → p < s → length (cell_in d cells p).row ≡ suc d
listed-long d s cells e p h = omega (arith, length-drop 2 (part (list_size d) p cells), part-long (list_size d) p s cells h e)

-- record p
abbrev pub blank_record : ℕ → List ℕ → ℕ → List ℕ
blank_record d cells p = blank_words d (ascending (cell_in d cells p))

module _ (d s : ℕ) (cells : List ℕ) (e : length cells ≡ list_length d s) where
  abbrev sorted_cell : ℕ → Cell
  sorted_cell p = ascending (cell_in d cells p)

  row-long : (p : ℕ) → p < s → length (ascending (cell_in d cells p)).row ≡ suc d
  row-long p h = sorted-length (cell_in d cells p).row ∙ listed-long d s cells e p h

  pub blank-long : (p : ℕ) → p < s → length (blank_words d (ascending (cell_in d cells p))) ≡ record_size d
  blank-long p h = words_long d (sorted_cell p) (row-long p h)

  pub blank-length : length (blank_table d s cells) ≡ table_length d s
  unfolding blank_table
  blank-length = length_tabulated (record_size d) s (λ p. blank_words d (sorted_cell p)) blank-long

  pub blank_whole : (buf : List ℕ) → length buf ≡ table_length d s → placed 0 (blank_table d s cells) buf ≡ blank_table d s cells
  blank_whole buf l =
      let all : List ℕ = blank_table d s cells in
      placed_first all buf ∙ ap (λ r. all ++ r) (drop_of_length-le buf {i = length all} (omega (arith, blank-length))) ∙ append-nil all

  module _ (p : ℕ) (h : p < s) where
    pub blank_part : part (record_size d) p (blank_table d s cells) ≡ blank_words d (ascending (cell_in d cells p))
    unfolding blank_table
    blank_part = part_tabulated (record_size d) s p (λ p. blank_words d (sorted_cell p)) blank-long h

    pub blank-cell : (entry_in d (blank_table d s cells) p).cell ≡ ascending (cell_in d cells p)
    blank-cell = ap (λ r. (entry_of d r).cell) blank_part ∙ words-cell d (sorted_cell p) (row-long p h)

    pub blank_wing : (a : ℕ) → a ≤ d → wing_in d (blank_table d s cells) p a ≡ empty
    blank_wing a l =
        ap (λ (xs : List ℕ). get_or xs a empty) (ap (λ r. (entry_of d r).wings) blank_part ∙ words-wings d (sorted_cell p) (row-long p h))
        ∙ get_or-replicate (suc d) a empty empty (omega arith)

    pub blank_fine : (v : ℕ) → FineCell d v cells p → Fine d v (blank_table d s cells) p
    blank_fine v f = record {
      sign = omega (arith, ap (λ r. get_or r 0 0) blank_part ∙ words-sign d (sorted_cell p), sign_small (sorted_cell p).sign);
      material = omega (arith, ap (λ (c : Cell). c.material) blank-cell, f.rest.material);
      low = omega (arith, ap (λ (c : Cell). get_or c.row d 0) blank-cell, f.rest.low);
      up = λ j l.
          omega (arith, ap (λ (c : Cell). get_or c.row j 0) blank-cell, ap (λ (c : Cell). get_or c.row (suc j) 0) blank-cell, f.rest.up j l);
    }
