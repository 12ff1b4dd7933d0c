-- The record of a swept cell, word by word.
--   record_long                           it has the words of a table record of dimension d + 1:
--   word_sign, word_material, word_vertex, word_wing      the sign word, the material of the cell below, d + 2 vertices, d + 2 wings
-- Assumes nothing.
use Rattle.std.proofs.Common.{◌≡◌, ℕ, zero, suc, ◌+◌, ◌-◌, ◌*◌, ◌<◌, ◌≤◌, List, [], ◌∷◌, ◌++◌, map, length, get_or, take, drop, refl, ap, ◌∙◌}
use Rattle.std.proofs.Common.{le_of_suc-le-suc, not-suc-le-zero, arith, length-append, length-drop, length-take-le, get_or-drop, get_or-take}
use Rattle.std.proofs.Common.{get_or-append-add, le-leb}
use native.Mathlib.Decide.{dec_le}
use lib.ListN.{length-map, get_or-append}
use borrow.Author.Tests.{lt-leb}
use Rattle.words.specs.Records.{part, tabulate}
use Rattle.words.proofs.Records.{tabulate_at, tabulate-length}
use Rattle.simplex.specs.Cell.{Cell, Row, times, alternating}
use Rattle.simplex.specs.SignWords.{sign_of, sign_word}
use Rattle.records.specs.Inner.Inside.{sign_in, material_in}
use Rattle.records.specs.Layout.{Entry, record_size, list_size, material_place, vertex_place, wing_place, table_length, cell_words}
use Rattle.solids.specs.Table.{entry_at}
use Rattle.prism.specs.Cells.{at_level, lifted, dimension, prism_cell}
use Rattle.prism.specs.Wings.{swept_wing}
use Rattle.sweeping.specs.Inner.SweptWords.{solid_entries, solid_wing, record_words}
use Rattle.simplex.specs.SignWords.{turned_sign}
use Rattle.sweeping.specs.Inner.RecordWords.{swept_vertex}
use Rattle.sweeping.proofs.TableWords.{solid-entry, solid-row-long}

map_at : (f : ℕ → ℕ) (xs : List ℕ) (i : ℕ) → i < length xs → get_or (map f xs) i 0 ≡ f (get_or xs i 0)
map_at f [] i h = absurd (not-suc-le-zero h)
map_at f (x ∷ xs) zero h = refl
map_at f (x ∷ xs) (suc i) h = map_at f xs i (le_of_suc-le-suc h)

module _ (d v s h : ℕ) (ws : List ℕ) (i p k : ℕ) (long : length ws ≡ table_length d s) (hp : p < s) (hk : k ≤ d) where
  abbrev here : Cell
  here = (entry_at (solid_entries d s ws) p).cell

  abbrev R : Row
  R = here.row

  abbrev low : Row
  low = lifted v i (drop k R)

  abbrev high : Row
  high = lifted v (suc i) (take (suc k) R)

  abbrev wings : List ℕ
  wings = tabulate (suc (suc d)) (swept_wing d s h (solid_wing d s ws) i p k)

  row-long : length R ≡ suc d
  row-long = solid-row-long d s ws p hp long

  low-long : length low ≡ suc d - k
  low-long = length-map (drop k R) (at_level v i) ∙ length-drop k R ∙ ap (λ n. n - k) row-long

  high_long : length high ≡ suc k
  high_long = length-map (take (suc k) R) (at_level v (suc i)) ∙ length-take-le (suc k) R (omega (arith, row-long))

  both_long : length (low ++ high) ≡ d + 2
  both_long = omega (arith, length-append low high, low-long, high_long)

  pub record_long : length (record_words d v s h ws i p k) ≡ record_size (suc d)
  unfolding record_words
  record_long =
      omega (arith, length-append (low ++ high) wings, both_long, tabulate-length (suc (suc d)) (swept_wing d s h (solid_wing d s ws) i p k))

  sign_is : here.sign ≡ sign_of (sign_in d ws p)
  sign_is =
      ap (λ (e : Entry). e.cell.sign) (solid-entry d s ws p hp)
      ∙ ap sign_of (get_or-take (list_size d) (part (record_size d) p ws) 0 0 (omega arith))

  pub word_sign : get_or (record_words d v s h ws i p k) 0 0 ≡ turned_sign (sign_in d ws p) (k * d)
  unfolding record_words
  word_sign =
      let dim : dimension here ≡ d = omega (arith, row-long) in
      ap (λ n. sign_word (times (alternating (k * n)) here.sign)) dim
      ∙ ap (λ t. sign_word (times (alternating (k * d)) t)) sign_is

  pub word_material : get_or (record_words d v s h ws i p k) material_place 0 ≡ material_in d ws p
  unfolding record_words
  word_material = ap (λ (e : Entry). e.cell.material) (solid-entry d s ws p hp)

  vertex_at : (j : ℕ) → j ≤ d + 1 → get_or (low ++ high) j 0 ≡ swept_vertex d v s ws i p k j
  vertex_at j hj = go (dec_le (k + j) d)
    where
      go : Dec (k + j ≤ d) → get_or (low ++ high) j 0 ≡ swept_vertex d v s ws i p k j
      go (yes l) =
          rw (le-leb (k + j) d l)
          (get_or-append low high 0 j (omega (arith, low-long))
          ∙ map_at (at_level v i) (drop k R) j (omega (arith, length-drop k R, row-long)) ∙ ap (at_level v i) (get_or-drop k R j 0))
      go (no l) =
          let m = k + j - suc d in
          let split : j ≡ length low + m = omega (arith, low-long) in
          rw (lt-leb (k + j) d (omega arith))
          (ap (λ n. get_or (low ++ high) n 0) split ∙ get_or-append-add low high m 0
          ∙ map_at (at_level v (suc i)) (take (suc k) R) m (omega (arith, length-take-le (suc k) R (omega (arith, row-long))))
          ∙ ap (at_level v (suc i)) (get_or-take (suc k) R m 0 (omega arith)))

  pub word_vertex : (j : ℕ) → j ≤ d + 1 → get_or (record_words d v s h ws i p k) (vertex_place j) 0 ≡ swept_vertex d v s ws i p k j
  unfolding record_words
  word_vertex j hj =
      ap (λ n. get_or (record_words d v s h ws i p k) n 0) {x = vertex_place j} {y = suc (suc j)} (omega arith)
      ∙ get_or-append (low ++ high) wings 0 j (omega (arith, both_long)) ∙ vertex_at j hj

  pub word_wing : (j : ℕ) → j ≤ d + 1 →
      get_or (record_words d v s h ws i p k) (wing_place (suc d) j) 0 ≡ swept_wing d s h (solid_wing d s ws) i p k j
  unfolding record_words
  word_wing j hj =
      let first = cell_words (prism_cell v i k here) in
      let split : wing_place (suc d) j ≡ length first + j = omega (arith, both_long) in
      ap (λ n. get_or (first ++ wings) n 0) split ∙ get_or-append-add first wings j 0
      ∙ tabulate_at (suc (suc d)) (swept_wing d s h (solid_wing d s ws) i p k) j 0 (omega arith)
