-- A table without wings, once all its keys are linked, is the table of the list.
-- Assumes nothing.
use mathlib.Core.Path.{◌≡◌, ap, ◌∙◌}
use mathlib.Core.List.{List}
use Prim.Native.Nat.{ℕ, suc, ◌*◌, ◌≤◌, ◌<◌}
use native.Mathlib.Omega.{arith}
use lib.ListN.{length, get_or}
use Rattle.words.specs.Records.{part}
use Rattle.rules.specs.Calls.{first_refusal}
use Rattle.simplex.specs.Cell.{Cell}
use Rattle.simplex.specs.Sort.{Asc}
use Rattle.records.specs.Layout.{list_length, list_size, table_length}
use Rattle.records.proofs.Places.{record_long, row-long}
use Rattle.solids.specs.Accept.{solid_rules}
use Rattle.solids.specs.Table.{table_of_list}
use Rattle.tables.specs.Inner.Tabled.{list_with}
use Rattle.soundness.specs.Inner.Certified.{Fine, row_in}
use Rattle.soundness.proofs.FaceRows.{rising}
use Rattle.gathering.specs.Inner.Gathering.{blank_table}
use Rattle.gathering.proofs.Assembled.{assembled}
use Rattle.gathering.proofs.BlankTables.{blank-cell, blank-length}
use Rattle.soundness.proofs.Linked.{apart, linked}
use Rattle.linking.specs.Inner.Linking.{Linking, SameCells}

-- a record with the same cell is as fine
fine_same : (d v s p : ℕ) (ws ws' : List ℕ) → SameCells d s ws ws' → p < s → Fine d v ws p → Fine d v ws' p
fine_same d v s p ws ws' same h fine =
    let vertex : (j : ℕ) → get_or (row_in d ws' p) j 0 ≡ get_or (row_in d ws p) j 0 = λ j. ap (λ (c : Cell). get_or c.row j 0) (same.cell p h) in
    record {
      sign = omega (arith, same.sign p h, fine.sign);
      material = omega (arith, ap (λ (c : Cell). c.material) (same.cell p h), fine.material);
      low = omega (arith, vertex d, fine.low);
      up = λ j l. omega (arith, vertex j, vertex (suc j), fine.up j l);
    }

module _ (d v s : ℕ) (cells ws : List ℕ) (some : 1 ≤ d) (few : d ≤ 7) (most : s ≤ 4096) (listed : length cells ≡ list_length d s)
    (signs : (p : ℕ) → p < s → get_or (part (list_size d) p cells) 0 0 ≤ 1) (fine : (p : ℕ) → p < s → Fine d v (blank_table d s cells) p)
    (same : SameCells d s (blank_table d s cells) ws) (all : Linking d (s * suc d) ws (s * suc d)) where
  long : length ws ≡ table_length d s
  long = same.long ∙ blank-length d s cells listed

  fine_now : (p : ℕ) → p < s → Fine d v ws p
  fine_now p h = fine_same d v s p (blank_table d s cells) ws same h (fine p h)

  size : (p : ℕ) → p < s → length (row_in d ws p) ≡ suc d
  size p h = row-long d _ (record_long d s p ws h long)

  up : (p : ℕ) → p < s → Asc (row_in d ws p)
  up p h = rising d v s p ws long h (fine_now p h)

  pub made : (0 ≡ first_refusal solid_rules (list_with d v s cells)) × (table_of_list (list_with d v s cells) ≡ ws)
  made =
      assembled d v s cells ws some few most listed long signs fine_now
      (linked d s ws most all.done size up) (apart d s ws most all.done size up)
      (λ p h. same.cell p h ∙ blank-cell d s cells listed p h)
