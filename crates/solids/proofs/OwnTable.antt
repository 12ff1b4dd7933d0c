-- The table of an accepted list is sound, and its own table.
use mathlib.Core.Path.{◌≡◌, ap, sym, ◌∙◌}
use Prim.Native.Nat.{◌*◌, suc, ℕ}
use mathlib.Core.List.{List, map}
use lib.ListN.{length}
use mathlib.Core.Bool.{true}
use borrow.Author.Tests.{eq-eqb}
use Rattle.words.specs.Records.{concat}
use Rattle.rules.specs.Limits.{max_dimension}
use Rattle.rules.specs.Shapes.{shape_ok}
use Rattle.simplex.specs.Cell.{Cell}
use Rattle.simplex.proofs.Each.{All}
use Rattle.simplex.proofs.Rows.{Long, same_rows}
use Rattle.solids.specs.Accept.{acceptable, solid_of}
use Rattle.records.specs.Layout.{cell_words, entries_of, own_list, record_size, table_length, table_words}
use Rattle.solids.specs.Table.{own_listed, own_table, sound, table_of, table_of_list}
use Rattle.solids.proofs.Accepted.{list_of, solid-accepted, solid-back}
use Rattle.solids.proofs.Codec.{Sized, entries_back, own-list, table-length, table_sized}
use Rattle.solids.proofs.Solid.{Solid}
use Rattle.solids.proofs.Tables.{entries_length, table-cells}

module _ (d v : ℕ) (cs : List Cell) (solid : Solid v cs) (long : All (Long (suc d)) cs) where
  sized : Sized d (table_of cs)
  sized = table_sized d cs 0 cs long

  -- the list of the table's own cells
  pub own-cells : own_listed d v (length cs) (table_words (table_of cs)) ≡ list_of d v cs
  own-cells =
      ap (λ ws. record { d = d; v = v; s = length cs; words = ws })
      (ap (λ n. own_list d n (table_words (table_of cs))) (sym (entries_length cs 0 cs))
      ∙ own-list d (table_of cs) sized ∙ ap (λ xs. concat (map cell_words xs)) (table-cells cs 0 cs))

  pub own-words : table_of_list (own_listed d v (length cs) (table_words (table_of cs))) ≡ table_words (table_of cs)
  unfolding table_of_list
  own-words = ap (λ l. table_words (table_of (solid_of l))) own-cells ∙ ap (λ xs. table_words (table_of xs)) (solid-back d v cs solid long)

  pub own-table : own_table d v (length cs) (table_words (table_of cs)) ≡ true
  unfolding own_table
  own-table =
      rw (ap acceptable own-cells ∙ solid-accepted d v cs solid long)
      (same_rows (table_words (table_of cs)) (table_of_list (own_listed d v (length cs) (table_words (table_of cs)))) (sym own-words))

  pub words-length : length (table_words (table_of cs)) ≡ table_length d (length cs)
  words-length = table-length d (table_of cs) sized ∙ ap (λ n. n * record_size d) (entries_length cs 0 cs)

  pub table-sound : shape_ok max_dimension d v (length cs) ≡ true → sound d v (length cs) (table_words (table_of cs)) ≡ true
  unfolding sound
  table-sound e = rw (e, eq-eqb (length (table_words (table_of cs))) (table_length d (length cs)) words-length) own-table

  -- reading the table's words gives its entries
  pub entries_of_words : entries_of d (length cs) (table_words (table_of cs)) ≡ table_of cs
  entries_of_words = ap (λ n. entries_of d n (table_words (table_of cs))) (sym (entries_length cs 0 cs)) ∙ entries_back d (table_of cs) sized
