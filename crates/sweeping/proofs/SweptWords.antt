-- The words of a sweep: how they come together, and how many they are.
--   prism_is, level_is, all_is        records over a cell, over a level, over all levels
--   all_words_lem                         they are the words of the swept table
--   all_long                          as many as its count of cells and the size of a record say
-- Assumes nothing.
use Rattle.std.proofs.Common.{◌≡◌, ℕ, suc, ◌+◌, ◌*◌, ◌<◌, List, length, sym, refl, ap, ◌∙◌, mul_assoc, add-one, arith}
use Rattle.words.specs.Records.{tabulate, concat}
use Rattle.words.proofs.Records.{length_tabulated, tabulate_ext, tabulate-map}
use Rattle.records.specs.Layout.{entries_of, entry_words, table_words, table_length, record_size}
use Rattle.prism.specs.Swept.{swept_entry, swept_table, swept_cells}
use Rattle.sweeping.specs.Inner.SweptWords.{solid_entries, record_words, prism_words, level_words, all_words}
use Rattle.words.proofs.Placed.{words-concat}
use Rattle.sweeping.proofs.RecordLaws.{record_long}

module _ (d v s h : ℕ) (ws : List ℕ) where
  pub prism_is : (i p : ℕ) → prism_words d v s h ws i p ≡ concat (tabulate (d + 1) (record_words d v s h ws i p))
  unfolding prism_words
  prism_is i p = ap (λ n. concat (tabulate n (record_words d v s h ws i p))) (sym (add-one d))

  pub level_is : (i : ℕ) → level_words d v s h ws i ≡ concat (tabulate s (prism_words d v s h ws i))
  unfolding level_words
  level_is i = refl

  pub all_is : all_words d v s h ws ≡ concat (tabulate h (level_words d v s h ws))
  unfolding all_words
  all_is = refl

  prism-words : (i p : ℕ) → table_words (tabulate (suc d) (swept_entry d v s h (solid_entries d s ws) i p)) ≡ prism_words d v s h ws i p
  unfolding prism_words record_words
  prism-words i p = ap concat (tabulate-map entry_words (suc d) (swept_entry d v s h (solid_entries d s ws) i p))

  level-words : (i : ℕ) →
      table_words (concat (tabulate s (λ p. tabulate (suc d) (swept_entry d v s h (solid_entries d s ws) i p)))) ≡ level_words d v s h ws i
  level-words i =
      words-concat entry_words s (λ p. tabulate (suc d) (swept_entry d v s h (solid_entries d s ws) i p))
      ∙ ap concat (tabulate_ext s _ (prism_words d v s h ws i) (λ p l. prism-words i p)) ∙ sym (level_is i)

  entries_are : entries_of d s ws ≡ solid_entries d s ws
  unfolding solid_entries
  entries_are = refl

  pub all_words_lem : table_words (swept_table d v s h (entries_of d s ws)) ≡ all_words d v s h ws
  all_words_lem = ap (λ es. table_words (swept_table d v s h es)) entries_are ∙ levels
    where
      levels : table_words (swept_table d v s h (solid_entries d s ws)) ≡ all_words d v s h ws
      levels =
          words-concat entry_words h (λ i. concat (tabulate s (λ p. tabulate (suc d) (swept_entry d v s h (solid_entries d s ws) i p))))
          ∙ ap concat (tabulate_ext h _ (level_words d v s h ws) (λ i l. level-words i)) ∙ sym all_is

  module _ (long : length ws ≡ table_length d s) where
    pub prism-long : (i p : ℕ) → p < s → length (prism_words d v s h ws i p) ≡ (d + 1) * record_size (suc d)
    prism-long i p hp =
        ap length (prism_is i p)
        ∙ length_tabulated (record_size (suc d)) (d + 1) (record_words d v s h ws i p)
        (λ k l. record_long d v s h ws i p k long hp (omega arith))

    pub level-long : (i : ℕ) → length (level_words d v s h ws i) ≡ s * ((d + 1) * record_size (suc d))
    level-long i =
        ap length (level_is i) ∙ length_tabulated ((d + 1) * record_size (suc d)) s (prism_words d v s h ws i) (λ p l. prism-long i p l)

    pub all_long : length (all_words d v s h ws) ≡ table_length (suc d) (swept_cells d s h)
    all_long =
        ap length all_is ∙ length_tabulated (s * ((d + 1) * record_size (suc d))) h (level_words d v s h ws) (λ i l. level-long i)
        ∙ ap (λ n. h * (s * (n * record_size (suc d)))) (add-one d)
        ∙ ap (λ n. h * n) (sym (mul_assoc s (suc d) (record_size (suc d)))) ∙ sym (mul_assoc h (s * suc d) (record_size (suc d)))
