-- The table that the rule gives is the table of the swept cells.
use mathlib.Core.Path.{◌≡◌, ap, ap₂, fun_ext, subst, sym, ◌∙◌}
use Prim.Native.Nat.{◌%◌, ◌*◌, ◌+◌, ◌/◌, ◌<◌, suc, zero, ℕ, ◌≤◌}
use mathlib.Core.List.{◌++◌, List, [], ◌∷◌}
use lib.ListN.{get_or-append, get_or, length}
use native.Mathlib.Nat.{div-add-mod', div-lt_iff_lt-mul, le_of_suc-le-suc, mod-lt, mul_assoc, mul-le-mul_right, not-suc-le-zero}
use native.Mathlib.Omega.{arith}
use lib.Seq.{ext_get_or, get_or-append-add}
use Rattle.words.specs.Records.{concat, tabulate}
use Rattle.words.proofs.Records.{EachLong, concat-length, tabulate_at, tabulate_ext, tabulate-length}
use Rattle.simplex.specs.Cell.{Cell, no_cell}
use Rattle.simplex.specs.Faces.{without}
use Rattle.simplex.proofs.Each.{All}
use Rattle.simplex.proofs.Rows.{Long}
use Rattle.records.specs.Layout.{empty, Entry}
use Rattle.solids.specs.Table.{entry_at, table_of, wing_at}
use Rattle.solids.specs.Wings.{neighbour, wings_of}
use Rattle.solids.proofs.Solid.{Solid, all_at, row_at}
use Rattle.solids.proofs.Tables.{cell_at, entries_length, table_at, table_wing, wings_tabulated}
use Rattle.prism.specs.Cells.{prism_cell, sweep_of}
use Rattle.prism.specs.Swept.{swept_entry, swept_table}
use Rattle.prism.specs.Wings.{cell_number, swept_wing}
use Rattle.prism.proofs.SweptRows.{cell_num, len_sweep, num_lt}
use Rattle.prism.proofs.SweptSolid.{swept-long}
use Rattle.prism.proofs.SweptWings.{wings_are}

-- element r of list i of lists of one length, one after the other
concat_at : {A : Type 0} (m : ℕ) (z : A) (xss : List (List A)) (i r : ℕ) → EachLong m xss →
    i < length xss → r < m → get_or (concat xss) (r + i * m) z ≡ get_or (get_or xss i []) r z
concat_at m z [] i r a hi hr = absurd (not-suc-le-zero hi)
concat_at m z (xs ∷ xss) zero r a hi hr =
    let e : r + 0 * m ≡ r = omega arith in
    ap (λ n. get_or (xs ++ concat xss) n z) e ∙ get_or-append xs (concat xss) z r (omega arith)
concat_at m z (xs ∷ xss) (suc i) r a hi hr =
    let e : r + suc i * m ≡ length xs + (r + i * m) = omega arith in
    ap (λ n. get_or (xs ++ concat xss) n z) e ∙ get_or-append-add xs (concat xss) (r + i * m) z ∙ concat_at m z xss i r a.1 (le_of_suc-le-suc hi) hr

each_tabulated : {A : Type 0} (m n : ℕ) (f : ℕ → List A) → ((i : ℕ) → length (f i) ≡ m) → EachLong m (tabulate n f)
each_tabulated m zero f h = tt
each_tabulated m (suc n) f h = (h 0, each_tabulated m n (λ i. f (suc i)) (λ i. h (suc i)))

pos_of : (S n h c : ℕ) → c < h * (S * n) → 0 < S
pos_of zero n h c l = absurd (omega arith)
pos_of (suc S) n h c l = omega arith

module _ (d v s h : ℕ) (es : List Entry) where
  abbrev prism_entries : ℕ → ℕ → List Entry
  prism_entries i p = tabulate (suc d) (swept_entry d v s h es i p)

  abbrev level_entries : ℕ → List Entry
  level_entries i = concat (tabulate s (prism_entries i))

  level-length : (i : ℕ) → length (level_entries i) ≡ s * suc d
  level-length i =
      concat-length (suc d) (tabulate s (prism_entries i))
      (each_tabulated (suc d) s (prism_entries i) (λ p. tabulate-length (suc d) (swept_entry d v s h es i p)))
      ∙ ap (λ n. n * suc d) (tabulate-length s (prism_entries i))

  pub swept-length : length (swept_table d v s h es) ≡ h * (s * suc d)
  swept-length =
      concat-length (s * suc d) (tabulate h level_entries) (each_tabulated (s * suc d) h level_entries level-length)
      ∙ ap (λ n. n * (s * suc d)) (tabulate-length h level_entries)

  -- the entry with the number of cell k over cell p at level i
  pub swept_at : (i p k : ℕ) → i < h → p < s → k < suc d → entry_at (swept_table d v s h es) (cell_number d s i p k) ≡ swept_entry d v s h es i p k
  swept_at i p k hi hp hk =
      concat_at (s * suc d) none (tabulate h level_entries) i (k + p * suc d)
      (each_tabulated (s * suc d) h level_entries level-length) (rw (tabulate-length h level_entries) hi)
      (omega (arith, mul-le-mul_right {m = suc p} {n = s} (suc d) hp))
      ∙ ap (λ xs. get_or xs (k + p * suc d) none) (tabulate_at h level_entries i [] hi)
      ∙ concat_at (suc d) none (tabulate s (prism_entries i)) p k
      (each_tabulated (suc d) s (prism_entries i) (λ p. tabulate-length (suc d) (swept_entry d v s h es i p)))
      (rw (tabulate-length s (prism_entries i)) hp) hk
      ∙ ap (λ xs. get_or xs k none) (tabulate_at s (prism_entries i) p [] hp)
      ∙ tabulate_at (suc d) (swept_entry d v s h es i p) k none hk
    where
      none : Entry
      none = record { cell = no_cell; wings = [] }

module _ (nv d h : ℕ) (cs : List Cell) (solid : Solid nv cs) (long : All (Long (suc d)) cs) (small : length cs ≤ empty) where
  abbrev T : List Cell
  T = sweep_of nv h cs

  abbrev S : ℕ
  S = length cs

  wings_at : (i p k : ℕ) → i < h → p < S → k ≤ d →
      wings_of T (cell_number d S i p k) (cell_at T (cell_number d S i p k)) ≡ tabulate (suc (suc d)) (swept_wing d S h (wing_at (table_of cs)) i p k)
  wings_at i p k hi hp hk =
      wings_tabulated T c (cell_at T c)
      ∙ ap (λ n. tabulate n (λ j. neighbour c (without j (row_at T c)) T))
      (all_at (Long (suc (suc d))) T (swept-long nv h (suc d) cs long) c
      (omega (arith, len_sweep nv (suc d) h cs long, num_lt nv (suc d) h S i p k hi hp (omega arith))))
      ∙ tabulate_ext (suc (suc d)) (λ j. neighbour c (without j (row_at T c)) T) (swept_wing d S h (wing_at (table_of cs)) i p k)
      (λ j l. wings_are nv d h cs solid long small i p k j hi hp hk (omega arith)
      ∙ ap (λ (wing : ℕ → ℕ → ℕ). swept_wing d S h wing i p k j) (sym (fun_ext (λ q. fun_ext (λ a. table_wing (suc d) cs long q a)))))
    where
      c : ℕ
      c = cell_number d S i p k

  entry_at_lem : (i p k : ℕ) → i < h → p < S → k ≤ d →
      entry_at (table_of T) (cell_number d S i p k) ≡ entry_at (swept_table d nv S h (table_of cs)) (cell_number d S i p k)
  entry_at_lem i p k hi hp hk =
      table_at T (cell_number d S i p k) (omega (arith, len_sweep nv (suc d) h cs long, num_lt nv (suc d) h S i p k hi hp (omega arith)))
      ∙ ap₂ {C = Entry} (λ c ws. record { cell = c; wings = ws })
      (cell_num nv (suc d) h i p k cs long hi hp (omega arith) ∙ ap (λ (e : Entry). prism_cell nv i k e.cell) (sym (table_at cs p hp)))
      (wings_at i p k hi hp hk)
      ∙ sym (swept_at d nv S h (table_of cs) i p k hi hp (omega arith))

  -- every number below the count of swept cells is that of one
  at_number : (c : ℕ) → c < h * (S * suc d) → entry_at (table_of T) c ≡ entry_at (swept_table d nv S h (table_of cs)) c
  at_number c hc = subst (λ n. entry_at (table_of T) n ≡ entry_at (swept_table d nv S h (table_of cs)) n) (sym c_is) (entry_at_lem i p k hi hp hk)
    where
      k : ℕ
      k = c % suc d

      p : ℕ
      p = c / suc d % S

      i : ℕ
      i = c / suc d / S

      S_pos : 0 < S
      S_pos = pos_of S (suc d) h c hc

      c_is : c ≡ cell_number d S (c / suc d / S) (c / suc d % S) (c % suc d)
      c_is =
          let m = c / suc d in
          omega (arith, div-add-mod' c (suc d), ap (λ x. x * suc d) (div-add-mod' m S))

      hk : c % suc d ≤ d
      hk = omega (arith, mod-lt c {m = suc d} (omega arith))

      hp : c / suc d % S < S
      hp = mod-lt (c / suc d) S_pos

      hi : c / suc d / S < h
      hi = (div-lt_iff_lt-mul S_pos).1 ((div-lt_iff_lt-mul {k = suc d} (omega arith)).1 (rw (mul_assoc h S (suc d)) hc))

  pub swept-table : swept_table d nv S h (table_of cs) ≡ table_of T
  swept-table =
      sym (ext_get_or (record { cell = no_cell; wings = [] }) (table_of T)
      (swept_table d nv S h (table_of cs)) (lengths ∙ sym (swept-length d nv S h (table_of cs)))
      (λ c l. at_number c (omega (arith, l, lengths))))
    where
      lengths : length (table_of T) ≡ h * (S * suc d)
      lengths = entries_length T 0 T ∙ len_sweep nv (suc d) h cs long
