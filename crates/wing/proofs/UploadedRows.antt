-- The wings that the code finds in a list and its table are the wings in uploaded order.
--   words-within      the words of cell p
--   rank_is           how many words of a cell are below vertex j, counted where they stand
--   rank_within       which is a place of the row
--   rows_are          the words for all cells, where the table is the list's own
--   row-long, rows_long   how many there are
--   uploaded_put, uploaded_kept   the further buffer after the call
use mathlib.Core.Path.{◌≡◌, sym, ap, ap₂, ◌∙◌}
use mathlib.Core.List.{List}
use Prim.Native.Nat.{ℕ, suc, ◌+◌, ◌*◌, ◌≤◌, ◌<◌}
use native.Mathlib.Nat.{mul-le-mul}
use native.Mathlib.Omega.{arith}
use lib.ListN.{length, get_or, take, drop, length-drop}
use lib.Seq.{length-take-le}
use Rattle.words.specs.Inner.Placed.{placed}
use Rattle.words.specs.Records.{tabulate, concat}
use Rattle.words.proofs.Placed.{placed_first}
use Rattle.words.proofs.Records.{tabulate_ext, tabulate-length, length_tabulated}
use Rattle.rules.specs.Calls.{accepted, refused, after}
use Rattle.simplex.specs.Cell.{Row}
use Rattle.simplex.specs.Faces.{without}
use Rattle.simplex.specs.Order.{below, sorted}
use Rattle.simplex.proofs.Removed.{rank_below}
use Rattle.records.specs.Layout.{cell_in, empty, list_length, list_size, vertex_place, wings_length, wings_size}
use Rattle.records.proofs.Places.{cell_row_lem, cell-vertex, cell-within}
use Rattle.solids.specs.Accept.{Listed, solid_of}
use Rattle.solids.specs.Table.{table_of_list}
use Rattle.solids.specs.Uploaded.{uploaded_of_list, uploaded_wings}
use Rattle.solids.specs.Wings.{neighbour}
use Rattle.solids.proofs.Uploaded.{told-long, uploaded_rank, uploaded_tabulated, written-wings}
use Rattle.wing.specs.Wing.{WingInput, wing_outcome, uploaded_buffer}
use Rattle.wing.specs.Inner.Uploaded.{uploaded_at, uploaded_row, uploaded_rows}
use Rattle.wing.proofs.Acceptance.{winged_is}

-- the words of cell p are among the list's, and stand at no large place
pub words-within : (d s p size : ℕ) (cells : List ℕ) → size ≡ list_size d → d ≤ 7 → s ≤ 4096 → p < s →
    length cells ≡ list_length d s →
    (p * size + vertex_place 0 + suc d ≤ length cells) × (p * size ≤ 4096 * 10)
words-within d s p size cells es hd hs h e =
    let less : p * size ≤ 4096 * 10 = mul-le-mul {n₁ = p} {m₁ = size} {n₂ = 4096} {m₂ = 10} (omega arith) (omega (arith, es)) in
    (omega (arith, cell-within d p cells s h e, ap (λ z. p * z) es), less)

-- cell p of a list's words
module _ (d s p : ℕ) (cells : List ℕ) (h : p < s) (e : length cells ≡ list_length d s) (j : ℕ) (k : j ≤ d) where
  abbrev row : Row
  row = (cell_in d cells p).row

  abbrev at : ℕ
  at = p * list_size d + vertex_place 0

  long : length row ≡ suc d
  long =
      ap length (cell_row_lem d p cells)
      ∙ length-take-le (suc d) (drop at cells) (omega (arith, length-drop at cells, cell-within d p cells s h e))

  pub rank_is : (size n : ℕ) → size ≡ list_size d → n ≡ suc d →
      below (get_or cells (p * size + vertex_place 0 + j) 0) (take n (drop (p * size + vertex_place 0) cells)) ≡ below (get_or row j 0) row
  rank_is size n es en =
      ap₂ below (ap (λ z. get_or cells (p * z + vertex_place 0 + j) 0) es ∙ cell-vertex d p cells j k)
      (ap₂ (λ z m. take m (drop (p * z + vertex_place 0) cells)) es en ∙ sym (cell_row_lem d p cells))

  pub rank_within : below (get_or row j 0) row ≤ d
  rank_within = omega (arith, rank_below j row (omega (arith, long)), long)

pub row-long : (d : ℕ) (cells table : List ℕ) (p : ℕ) → length (uploaded_row d cells table p) ≡ wings_size d
row-long d cells table p = tabulate-length (wings_size d) (uploaded_at d cells table p)

pub rows_long : (d s : ℕ) (cells table : List ℕ) → length (concat (tabulate s (uploaded_row d cells table))) ≡ wings_length d s
rows_long d s cells table = length_tabulated (wings_size d) s (uploaded_row d cells table) (λ p h. row-long d cells table p)

module _ (l : Listed) (e : length l.words ≡ list_length l.d l.s) where
  row_is : (p : ℕ) → p < l.s → uploaded_row l.d l.words (table_of_list l) p ≡ uploaded_wings (solid_of l) p (cell_in l.d l.words p)
  row_is p h =
      let c = cell_in l.d l.words p in
      let long = told-long l e p h in
      let lacking : ℕ → ℕ = λ j. neighbour p (sorted (without j c.row)) (solid_of l) in
      tabulate_ext (wings_size l.d) (uploaded_at l.d l.words (table_of_list l) p) lacking
      (λ j k. ap (λ ws. get_or ws (below (get_or c.row j 0) c.row) empty) (written-wings l e p h)
      ∙ sym (uploaded_rank (solid_of l) p c j (omega (arith, long))))
      ∙ ap (λ n. tabulate n lacking) (sym long) ∙ sym (uploaded_tabulated (solid_of l) p c)

  pub rows_are : uploaded_rows l.d l.s l.words (table_of_list l) ≡ uploaded_of_list l
  unfolding uploaded_rows uploaded_of_list
  rows_are =
      ap concat (tabulate_ext l.s (uploaded_row l.d l.words (table_of_list l))
      (λ p. uploaded_wings (solid_of l) p (cell_in l.d l.words p)) row_is)

-- the further buffer, by the call's outcome
module _ (i : WingInput) (out : List ℕ) where
  pub uploaded_put : (k : ℕ) (table new : List ℕ) → wing_outcome i ≡ accepted k → table ≡ table_of_list i.list →
      new ≡ placed 0 (uploaded_rows i.list.d i.list.s i.list.words table) out → new ≡ uploaded_buffer i out
  unfolding uploaded_buffer
  uploaded_put k table new e t w =
      let l = i.list in
      w ∙ ap (λ (xs : List ℕ). placed 0 xs out) (ap (uploaded_rows l.d l.s l.words) t ∙ rows_are l (winged_is i k e).size)
      ∙ placed_first (uploaded_of_list l) out ∙ ap (λ o. after o (uploaded_of_list l) out) (sym e)

  pub uploaded_kept : (n : ℕ) → wing_outcome i ≡ refused n → out ≡ uploaded_buffer i out
  unfolding uploaded_buffer
  uploaded_kept n e = ap (λ o. after o (uploaded_of_list i.list) out) (sym e)
