-- What was taken from a list of cells: its table.
--   whole_list            a list of words is the list of its records
--   taken_table           the table of what was taken
--   taken_written         what is written of it is what wing writes
use mathlib.Core.Path.{◌≡◌, sym, ap, ◌∙◌}
use mathlib.Core.List.{List, ◌++◌}
use Prim.Native.Nat.{ℕ, ◌*◌, ◌≤◌}
use lib.ListN.{length, drop}
use Rattle.words.specs.Inner.Placed.{placed}
use Rattle.words.proofs.Placed.{placed_first}
use Rattle.rules.specs.Calls.{written}
use Rattle.simplex.specs.Cell.{Sign}
use Rattle.solids.specs.Accept.{Listed}
use Rattle.tables.specs.Inner.Held.{Taken, held_words, record_list}
use Rattle.records.specs.Layout.{list_size, table_words}
use Rattle.solids.specs.Table.{table_of, table_of_list}
use Rattle.tables.proofs.Filling.{parts_of}
use Rattle.tables.proofs.TableWords.{table-words}

-- a list of words is the list of its records
pub whole_list : (d v s : ℕ) (ws : List ℕ) → length ws ≡ s * list_size d →
    record_list (list_size d) d v s ws ≡ record { d = d; v = v; s = s; words = ws }
whole_list d v s ws e = ap (λ (xs : List ℕ). record { d = d; v = v; s = s; words = xs }) (parts_of (list_size d) s ws e)

-- the table of what was taken
pub taken_table : (l : Listed) (rows : List ℕ) (signs : List Sign) (made : ℕ → ℕ) (wings : List ℕ) → l.d ≤ 7 → l.s ≤ 4096 →
    Taken l rows signs made wings → table_of_list l ≡ held_words l.d l.s rows signs made wings
unfolding table_of_list
taken_table l rows signs made wings hd hs t =
    ap (λ cs. table_words (table_of cs)) t.cells ∙ table-words l.d l.s rows signs made wings hd hs t.wide t.winged

-- what is written of it is what wing writes
pub taken_written : (d v s : ℕ) (cells rows : List ℕ) (signs : List Sign) (made : ℕ → ℕ) (wings out : List ℕ) →
    d ≤ 7 → s ≤ 4096 → length cells ≡ s * list_size d → Taken (record_list (list_size d) d v s cells) rows signs made wings →
    placed 0 (held_words d s rows signs made wings) out ≡ written (table_of_list (record { d = d; v = v; s = s; words = cells })) out
taken_written d v s cells rows signs made wings out hd hs len t =
    placed_first (held_words d s rows signs made wings) out
    ∙ ap (λ (xs : List ℕ). xs ++ drop (length xs) out)
    (sym (taken_table (record_list (list_size d) d v s cells) rows signs made wings hd hs t) ∙ ap table_of_list (whole_list d v s cells len))
