-- A table that is fine, linked and apart is sound.
-- Assumes nothing.
use mathlib.Core.Path.{◌≡◌, refl, sym, ap, ◌∙◌, subst}
use mathlib.Core.Bool.{true}
use mathlib.Core.List.{List, [], ◌∷◌, ◌++◌, map}
use Prim.Native.Nat.{ℕ, zero, suc, ◌≤◌, ◌<◌}
use native.Mathlib.Omega.{arith}
use lib.ListN.{length, get_or, take, drop, take-append-drop}
use lib.Seq.{length-take-le, ext_get_or, get_or-take, take_all}
use Rattle.words.specs.Records.{tabulate, concat, part}
use Rattle.words.proofs.Records.{tabulate_at, tabulate-length, tabulate_ext, tabulate_get_d, tabulate-map}
use Rattle.rules.specs.Limits.{max_dimension}
use Rattle.rules.specs.Shapes.{shape_ok}
use Rattle.simplex.specs.Cell.{Cell, no_cell}
use Rattle.simplex.specs.SignWords.{sign_of, sign_word}
use Rattle.records.specs.Layout.{empty, Entry, cell_of, cell_words, entry_in, entry_of, entry_words, list_size, record_size, table_length}
use Rattle.records.specs.Layout.{table_words}
use Rattle.records.proofs.Places.{record_long, row-long, wings-long}
use Rattle.solids.specs.Table.{entry_at, sound, table_of}
use Rattle.solids.specs.Wings.{neighbour, wings_of}
use Rattle.solids.proofs.OwnTable.{table-sound}
use Rattle.solids.proofs.Tables.{cell_at, entries_length, table_at, wings_tabulated}
use Rattle.tables.proofs.Filling.{parts_of}
use Rattle.soundness.specs.Inner.Certified.{face_in, Fine, Linked, Apart}
use Rattle.soundness.proofs.Certifying.{cells_in, count, cell_at_lem, rows_long, solid, wing_is}

-- a sign word of 0 or 1 is that of its sign
word_back : (w : ℕ) → w ≤ 1 → sign_word (sign_of w) ≡ w
word_back zero h = refl
word_back (suc zero) h = refl
word_back (suc (suc w)) h = absurd (omega arith)

-- the words of a list cell
cell-words : (r : List ℕ) → 2 ≤ length r → get_or r 0 0 ≤ 1 → cell_words (cell_of r) ≡ r
cell-words [] h l = absurd (omega arith)
cell-words (x ∷ []) h l = absurd (omega arith)
cell-words (x ∷ (y ∷ r)) h l = ap {B = List ℕ} (λ z. z ∷ y ∷ r) (word_back x l)

-- and of a record
entry-words : (d : ℕ) (P : List ℕ) → length P ≡ record_size d → get_or P 0 0 ≤ 1 → entry_words (entry_of d P) ≡ P
entry-words d P e l =
    ap (λ r. r ++ drop (list_size d) P)
    (cell-words (take (list_size d) P) (omega (arith, length-take-le (list_size d) P (omega arith)))
    (rw (get_or-take (list_size d) P 0 0 (omega arith)) l))
    ∙ take-append-drop (list_size d) P

module _ (d v s : ℕ) (ws : List ℕ) (some : 1 ≤ d) (most : s ≤ 4096) (long : length ws ≡ table_length d s)
    (fine : (p : ℕ) → p < s → Fine d v ws p) (linked : (p a : ℕ) → p < s → a ≤ d → Linked d s ws p a) (apart : Apart d s ws) where
  abbrev cs : List Cell
  cs = cells_in d s ws

  cells : (p : ℕ) → p < s → cell_at (cells_in d s ws) p ≡ (entry_in d ws p).cell
  cells = cell_at_lem d v s ws some most long fine linked apart

  many : length (table_of (cells_in d s ws)) ≡ s
  many = entries_length cs 0 cs ∙ count d v s ws some most long fine linked apart

  -- the wings of a record are those of the cell
  wings : (p : ℕ) → p < s → (entry_in d ws p).wings ≡ wings_of cs p (entry_in d ws p).cell
  wings p h =
      ext_get_or empty (entry_in d ws p).wings (tabulate (suc d) near) (size ∙ sym (tabulate-length (suc d) near))
      (λ a l. wing_is d v s ws some most long fine linked apart p a h (omega (arith, l, size))
      ∙ sym (tabulate_at (suc d) near a empty (omega (arith, l, size))))
      ∙ ap (λ n. tabulate n near) (sym (row-long d _ (record_long d s p ws h long)))
      ∙ sym (wings_tabulated cs p (entry_in d ws p).cell)
    where
      near : ℕ → ℕ
      near a = neighbour p (face_in d ws p a) cs

      size : length (entry_in d ws p).wings ≡ suc d
      size = wings-long d _ (record_long d s p ws h long)

  entry_is : (p : ℕ) → p < s → entry_at (table_of (cells_in d s ws)) p ≡ entry_in d ws p
  entry_is p h =
      table_at cs p (omega (arith, h, count d v s ws some most long fine linked apart))
      ∙ ap (λ (c : Cell). record { cell = c; wings = wings_of cs p c }) (cells p h)
      ∙ ap (λ (xs : List ℕ). record { cell = (entry_in d ws p).cell; wings = xs }) (sym (wings p h))

  pub words : table_words (table_of (cells_in d s ws)) ≡ ws
  words =
      let es : List Entry = table_of cs in
      ap concat
      (ap (map entry_words) (sym (tabulate_get_d (record { cell = no_cell; wings = [] }) es)) ∙ tabulate-map entry_words (length es) (entry_at es)
      ∙ ap (λ n. tabulate n (λ p. entry_words (entry_at es p))) many
      ∙ tabulate_ext s (λ p. entry_words (entry_at es p)) (λ p. take (record_size d) (part (record_size d) p ws))
      (λ p h. ap entry_words (entry_is p h) ∙ entry-words d _ (record_long d s p ws h long) (fine p h).sign
      ∙ sym (take_all (record_size d) (part (record_size d) p ws) (omega (arith, record_long d s p ws h long)))))
      ∙ parts_of (record_size d) s ws long

  pub certified : shape_ok max_dimension d v s ≡ true → sound d v s ws ≡ true
  certified ok =
      let n = count d v s ws some most long fine linked apart in
      subst (λ xs. sound d v s xs ≡ true) words
      (subst (λ m. sound d v m (table_words (table_of (cells_in d s ws))) ≡ true) n
      (table-sound d v cs (solid d v s ws some most long fine linked apart) (rows_long d v s ws some most long fine linked apart)
      (subst (λ m. shape_ok max_dimension d v m ≡ true) (sym n) ok)))
