-- Where the parts of a file stand.
--   size b, head b        the bytes of a cell, and those before its vertices
--   cell_place b p         where cell p begins
--   head_some             the sign byte is among those
--   product_below         a product of two bounded numbers
--   cell_room_lem         a cell is within the cells
--   points-length, point_at      the points: how many floats, and each by its place
--   signs-length, sign_at_lem        the sign bytes
--   cells-length, row_at_lem         the cells: the vertices of each are those behind its sign and material
--   material_at_lem, words_at        the material of a cell, and its words, by its place
-- Assumes nothing.
use mathlib.Core.Path.{◌≡◌, sym, ap, ap₂, ◌∙◌}
use mathlib.Core.Bool.{Bool, true, false, cond}
use mathlib.Core.List.{List, ◌∷◌}
use Prim.Native.Nat.{ℕ, suc, ◌+◌, ◌*◌, ◌≤◌, ◌<◌, zero-le}
use native.Mathlib.Nat.{mul-le-mul_left, mul-lt-mul_of_pos_right, lt_of_le_of_lt, le_of_lt}
use native.Mathlib.Omega.{arith}
use lib.Dec.{eqb}
use lib.ListN.{length, drop, get_or, length-drop}
use lib.Seq.{get_or-take, get_or-drop, length-take-le}
use lib.Ieee.{nan}
use Rattle.words.specs.Bytes.{float64, words16, words_from}
use Rattle.words.proofs.Records.{record_fits, tabulate-length, tabulate_at}
use Rattle.words.proofs.Bytes.{words_of}
use Rattle.rules.specs.Limits.{with_materials}
use Rattle.simplex.specs.Cell.{no_cell}
use Rattle.simplex.specs.SignWords.{sign_word}
use Rattle.records.specs.Layout.{cell_words}
use Rattle.file.specs.File.{header_size, version_of, dimension_of, cell_count_of, point_count, cells_start, cell_head, cell_bytes, file_length}
use Rattle.file.specs.File.{file_points, cell_part, sign_bytes, material_of, file_cell, file_cells}
use Rattle.file.specs.Inner.Places.{material_from, cell_words_from}

-- bytes of a cell, and before its vertices
abbrev pub size : List ℕ → ℕ
size b = cell_bytes (version_of b) (dimension_of b)

abbrev pub head : List ℕ → ℕ
head b = cell_head (version_of b)

abbrev pub cell_place : List ℕ → ℕ → ℕ
cell_place b p = cells_start b + p * size b

pub head_some : (k : ℕ) → 1 ≤ cell_head k
head_some k = go (with_materials k)
  where
    go : (t : Bool) → 1 ≤ cond t 3 1
    go true = omega arith
    go false = omega arith

pub product_below : {a b m n : ℕ} → a < m → b < n → a * b < m * n
product_below {a} {b} {m} {n} h k = lt_of_le_of_lt (mul-le-mul_left a (le_of_lt k)) (mul-lt-mul_of_pos_right h (lt_of_le_of_lt zero-le k))

module _ (b : List ℕ) where
  pub points-length : length (file_points b) ≡ point_count b
  unfolding file_points
  points-length = tabulate-length (point_count b) (λ k. float64 b (header_size + k * 8))

  pub point_at : (k : ℕ) → k < point_count b → get_or (file_points b) k nan ≡ float64 b (header_size + k * 8)
  unfolding file_points
  point_at k h = tabulate_at (point_count b) (λ k. float64 b (header_size + k * 8)) k nan h

  pub signs-length : length (sign_bytes b) ≡ cell_count_of b
  signs-length = tabulate-length (cell_count_of b) (λ p. get_or (cell_part b p) 0 0)

  pub cells-length : length (file_cells b) ≡ cell_count_of b
  unfolding file_cells
  cells-length = tabulate-length (cell_count_of b) (file_cell b)

  byte_at : (p i : ℕ) → i < size b → get_or (cell_part b p) i 0 ≡ get_or b (cell_place b p + i) 0
  byte_at p i h =
      let e : cells_start b + (p * size b + i) ≡ cell_place b p + i = omega arith in
      get_or-take (size b) (drop (p * size b) (drop (cells_start b) b)) i 0 h
      ∙ get_or-drop (p * size b) (drop (cells_start b) b) i 0
      ∙ get_or-drop (cells_start b) b (p * size b + i) 0
      ∙ ap (λ k. get_or b k 0) e

  first_byte : (p : ℕ) → get_or (cell_part b p) 0 0 ≡ get_or b (cell_place b p) 0
  first_byte p =
      let e : cell_place b p + 0 ≡ cell_place b p = omega arith in
      byte_at p 0 (omega (arith, head_some (version_of b))) ∙ ap (λ k. get_or b k 0) e

  pub sign_at_lem : (p : ℕ) → p < cell_count_of b → get_or (sign_bytes b) p 0 ≡ get_or b (cell_place b p) 0
  sign_at_lem p h = tabulate_at (cell_count_of b) (λ p. get_or (cell_part b p) 0 0) p 0 h ∙ first_byte p

  pub material_at_lem : (p : ℕ) → material_of b p ≡ material_from (version_of b) b (cell_place b p)
  material_at_lem p =
      let e2 : cell_place b p + 2 ≡ cell_place b p + 1 + 1 = omega arith in
      let some = head_some (version_of b) in
      ap₂ (λ x y. cond (with_materials (version_of b)) (x + y * 256) 0) (byte_at p 1 (omega (arith, some)))
      (byte_at p 2 (omega (arith, some)) ∙ ap (λ k. get_or b k 0) e2)

  module _ (whole : length b ≡ file_length b) (p : ℕ) (h : p < cell_count_of b) where
    pub cell_room_lem : cell_place b p + size b ≤ length b
    cell_room_lem = omega (arith, record_fits (size b) (cell_count_of b) p h)

    part_length : length (cell_part b p) ≡ size b
    part_length =
        length-take-le (size b) (drop (p * size b) (drop (cells_start b) b))
        (omega (arith, length-drop (p * size b) (drop (cells_start b) b), length-drop (cells_start b) b, cell_room_lem))

    pub file_cell_lem : get_or (file_cells b) p no_cell ≡ file_cell b p
    unfolding file_cells
    file_cell_lem = tabulate_at (cell_count_of b) (file_cell b) p no_cell h

    row_words : words16 (drop (head b) (cell_part b p)) ≡ words_from b (cell_place b p + head b) (suc (dimension_of b))
    row_words =
        let long = length-drop (head b) (cell_part b p) in
        words_of (suc (dimension_of b)) (drop (head b) (cell_part b p)) b (cell_place b p + head b)
        (omega (arith, long, part_length)) (omega (arith, long, part_length))
        (λ i k. let e : cell_place b p + (head b + i) ≡ cell_place b p + head b + i = omega arith in
        get_or-drop (head b) (cell_part b p) i 0 ∙ byte_at p (head b + i) (omega arith) ∙ ap (λ j. get_or b j 0) e)

    -- with the vertex count as the code has it
    module _ (m : ℕ) (k : m ≡ suc (dimension_of b)) where
      row_from : words_from b (cell_place b p + head b) m ≡ words16 (drop (head b) (cell_part b p))
      row_from = ap (λ n. words_from b (cell_place b p + head b) n) k ∙ sym row_words

      -- the place of the vertices
      pub row_at_lem : (at : ℕ) → at ≡ cell_place b p + head b → words_from b at m ≡ (get_or (file_cells b) p no_cell).row
      row_at_lem at e = ap (λ x. words_from b x m) e ∙ row_from ∙ sym (ap (λ c. c.row) file_cell_lem)

      pub words_at : (at : ℕ) → at ≡ cell_place b p → cell_words_from (version_of b) b at m ≡ cell_words (file_cell b p)
      words_at at e =
          ap (λ x. cell_words_from (version_of b) b x m) e
          ∙ ap₂ {C = List ℕ} (λ x w. sign_word (eqb x 43) ∷ material_from (version_of b) b (cell_place b p) ∷ w) (sym (first_byte p)) row_from
          ∙ ap {B = List ℕ} (λ n. sign_word (eqb (get_or (cell_part b p) 0 0) 43) ∷ n ∷ words16 (drop (head b) (cell_part b p)))
          (sym (material_at_lem p))
