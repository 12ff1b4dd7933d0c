-- A list of cells whose table, once it has wings, is fine, linked and apart: no row refuses the list, and these are the words of its table.
-- Assumes nothing.
use mathlib.Core.Path.{◌≡◌, sym, ap, ◌∙◌}
use mathlib.Core.Bool.{true, false, not}
use mathlib.Core.List.{List}
use Prim.Native.Nat.{ℕ, suc, ◌≤◌, ◌<◌}
use native.Mathlib.Omega.{arith}
use lib.Dec.{leb, ltb}
use lib.ListN.{length, get_or}
use borrow.Author.Tests.{eqb-true, le-leb, le-ltb, lt-leb}
use Rattle.words.specs.Records.{any_of, part, tabulate}
use Rattle.words.proofs.Below.{none_below}
use Rattle.words.proofs.Records.{tabulate_ext, tabulate-map}
use Rattle.rules.specs.Calls.{first_refusal}
use Rattle.rules.specs.Limits.{max_material}
use Rattle.simplex.specs.Cell.{Cell, Row}
use Rattle.simplex.specs.Faces.{facets}
use Rattle.simplex.specs.Order.{ascending}
use Rattle.records.specs.Layout.{cell_in, entry_in, list_length, list_size, table_length, table_words}
use Rattle.solids.specs.Accept.{Listed, acceptable, cell_twice, crowded_face, equal_signs, repeats, solid_of, solid_rules}
use Rattle.solids.specs.Table.{table_of, table_of_list}
use Rattle.solids.proofs.Accepted.{Passed, passes}
use Rattle.solids.proofs.Solid.{each_tabulated}
use Rattle.solids.proofs.Tests.{of_few, of_none, once-signs}
use Rattle.tables.specs.Inner.Tabled.{list_with}
use Rattle.tables.proofs.SortedTests.{beyond_last, falls_in, twice-falls}
use Rattle.soundness.specs.Inner.Certified.{Fine, Linked, Apart}
use Rattle.soundness.proofs.Certified.{words}
use Rattle.soundness.proofs.Certifying.{cells_in, once, solid}
use Rattle.gathering.proofs.BlankTables.{listed-long}

no_refusal : (l : Listed) → acceptable l ≡ true → 0 ≡ first_refusal solid_rules l
unfolding acceptable
no_refusal l e = sym (eqb-true (first_refusal solid_rules l) 0 e)

module _ (d v s : ℕ) (cells ws : List ℕ) (some : 1 ≤ d) (few : d ≤ 7) (most : s ≤ 4096)
    (listed : length cells ≡ list_length d s) (long : length ws ≡ table_length d s)
    (signs : (p : ℕ) → p < s → get_or (part (list_size d) p cells) 0 0 ≤ 1)
    (fine : (p : ℕ) → p < s → Fine d v ws p) (linked : (p a : ℕ) → p < s → a ≤ d → Linked d s ws p a) (apart : Apart d s ws)
    (same : (p : ℕ) → p < s → (entry_in d ws p).cell ≡ ascending (cell_in d cells p)) where
  -- the table's cells are the list's in ascending order
  solid_is : solid_of (list_with d v s cells) ≡ cells_in d s ws
  solid_is =
      tabulate-map ascending s (cell_in d cells)
      ∙ tabulate_ext s (λ p. ascending (cell_in d cells p)) (λ p. (entry_in d ws p).cell) (λ p h. sym (same p h))

  row_is : (p : ℕ) → p < s → (ascending (cell_in d cells p)).row ≡ (entry_in d ws p).cell.row
  row_is p h = ap (λ (c : Cell). c.row) (sym (same p h))

  -- 7, 8 and 18 of cell p
  below : (p : ℕ) → p < s → any_of (λ x. leb v x) (cell_in d cells p).row ≡ false
  below p h =
      beyond_last v d (cell_in d cells p).row (listed-long d s cells listed p h)
      ∙ ap (λ (w : Row). leb v (get_or w d 0)) (row_is p h) ∙ lt-leb v _ (fine p h).low

  once_only : (p : ℕ) → p < s → repeats (cell_in d cells p).row ≡ false
  once_only p h =
      let u : Row = (entry_in d ws p).cell.row in
      twice-falls d (cell_in d cells p).row (listed-long d s cells listed p h) ∙ ap (falls_in d) (row_is p h)
      ∙ none_below (λ j. leb (get_or u (suc j) 0) (get_or u j 0)) d (λ j l. lt-leb (get_or u (suc j) 0) (get_or u j 0) ((fine p h).up j l))

  made : (p : ℕ) → p < s → ltb max_material (cell_in d cells p).material ≡ false
  made p h =
      le-ltb max_material (cell_in d cells p).material (omega (arith, ap (λ (c : Cell). c.material) (same p h), (fine p h).material))

  passing : Passed (list_with d v s cells)
  passing =
      let cs : List Cell = cells_in d s ws in
      let F : List Cell = facets cs in
      let sound = solid d v s ws some most long fine linked apart in
      let word : ℕ → ℕ = λ p. get_or (part (list_size d) p cells) 0 0 in
      record {
        sign = of_none (λ x. not (leb x 1)) (tabulate s word)
            (each_tabulated (λ x. not (leb x 1) ≡ false) s word (λ p h. ap not (le-leb (word p) 1 (signs p h))));
        vertex = of_none (λ (c : Cell). any_of (λ x. leb v x) c.row) (tabulate s (cell_in d cells))
            (each_tabulated (λ (c : Cell). any_of (λ x. leb v x) c.row ≡ false) s (cell_in d cells) below);
        twice = of_none (λ (c : Cell). repeats c.row) (tabulate s (cell_in d cells))
            (each_tabulated (λ (c : Cell). repeats c.row ≡ false) s (cell_in d cells) once_only);
        material = of_none (λ (c : Cell). ltb max_material c.material) (tabulate s (cell_in d cells))
            (each_tabulated (λ (c : Cell). ltb max_material c.material ≡ false) s (cell_in d cells) made);
        cell = ap cell_twice solid_is ∙ of_few 1 cs sound.distinct cs;
        crowded = ap (λ xs. crowded_face (facets xs)) solid_is ∙ of_few 2 F sound.meet F;
        equal = ap (λ xs. equal_signs (facets xs)) solid_is ∙ once-signs F (once d v s ws some most long fine linked apart) F;
      }

  table_is : table_of_list (list_with d v s cells) ≡ ws
  unfolding table_of_list
  table_is = ap (λ cs. table_words (table_of cs)) solid_is ∙ words d v s ws some most long fine linked apart

  pub assembled : (0 ≡ first_refusal solid_rules (list_with d v s cells)) × (table_of_list (list_with d v s cells) ≡ ws)
  assembled = (no_refusal (list_with d v s cells) (passes (list_with d v s cells) passing), table_is)
