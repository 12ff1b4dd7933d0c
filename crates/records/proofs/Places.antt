-- What stands where in a record P, and in record p of a table.
--   row-long, wings-long      a record has d + 1 vertices and d + 1 wings
--   sign_at_lem, material_at_lem      its sign word is its first, its material its second,
--   vertex_at, wing_at_lem        vertex k is word vertex_place k, wing a is word wing_place d a
--   record_long               record p of a table is a record
--   entry_at_lem                  entry p of a table is that of record p
--   cell_row_lem                  the vertices of cell p of a list
--   cell-within               its words are among the list's
--   cell-vertex               vertex j of it
-- Assumes nothing.
use mathlib.Core.Path.{◌≡◌, sym, ap, ◌∙◌}
use mathlib.Core.List.{List}
use Prim.Native.Nat.{ℕ, ◌+◌, ◌*◌, ◌≤◌, ◌<◌, suc}
use native.Mathlib.Omega.{arith}
use lib.ListN.{length, get_or, take, drop, length-drop}
use lib.Seq.{drop-drop, get_or-take, get_or-drop, length-take-le}
use Rattle.words.specs.Records.{part}
use Rattle.words.proofs.Records.{tabulate_at}
use Rattle.simplex.specs.SignWords.{sign_of}
use Rattle.records.specs.Layout.{Entry, empty, list_size, record_size, material_place, vertex_place, wing_place, list_length, table_length}
use Rattle.records.specs.Layout.{cell_in, entry_of, entry_in, entries_of}
use Rattle.records.proofs.Parts.{inside, part-long, default_free, drop-take}

module _ (d : ℕ) (P : List ℕ) (long : length P ≡ record_size d) where
  pub row-long : length (entry_of d P).cell.row ≡ suc d
  row-long = length-drop 2 (take (list_size d) P) ∙ omega (arith, length-take-le (list_size d) P (omega (arith, long)))

  pub wings-long : length (entry_of d P).wings ≡ suc d
  wings-long = length-drop (list_size d) P ∙ omega (arith, long)

  pub sign_at_lem : (entry_of d P).cell.sign ≡ sign_of (get_or P 0 0)
  sign_at_lem = ap sign_of (get_or-take (list_size d) P 0 0 (omega arith))

  pub material_at_lem : (entry_of d P).cell.material ≡ get_or P material_place 0
  material_at_lem = get_or-take (list_size d) P material_place 0 (omega arith)

  pub vertex_at : (k : ℕ) → k ≤ d → get_or (entry_of d P).cell.row k 0 ≡ get_or P (vertex_place k) 0
  vertex_at k h =
      let two : vertex_place 0 + k ≡ vertex_place k = omega arith in
      get_or-drop (vertex_place 0) (take (list_size d) P) k 0 ∙ get_or-take (list_size d) P (vertex_place 0 + k) 0 (omega arith)
      ∙ ap (λ n. get_or P n 0) two

  pub wing_at_lem : (a : ℕ) → a ≤ d → get_or (entry_of d P).wings a empty ≡ get_or P (wing_place d a) 0
  wing_at_lem a h = get_or-drop (list_size d) P a empty ∙ default_free P (wing_place d a) empty 0 (omega (arith, long))

pub record_long : (d s p : ℕ) (ws : List ℕ) → p < s → length ws ≡ table_length d s → length (part (record_size d) p ws) ≡ record_size d
record_long d s p ws h e = part-long (record_size d) p s ws h e

pub entry_at_lem : (d s p : ℕ) (ws : List ℕ) (z : Entry) → p < s → get_or (entries_of d s ws) p z ≡ entry_in d ws p
entry_at_lem d s p ws z h = tabulate_at s (entry_in d ws) p z h

module _ (d p : ℕ) (ws : List ℕ) where
  pub cell_row_lem : (cell_in d ws p).row ≡ take (suc d) (drop (p * list_size d + vertex_place 0) ws)
  cell_row_lem =
      drop-take (vertex_place 0) (suc d) (list_size d) (drop (p * list_size d) ws) (omega arith)
      ∙ ap (take (suc d)) (drop-drop (vertex_place 0) (p * list_size d) ws)

  pub cell-within : (s : ℕ) → p < s → length ws ≡ list_length d s → p * list_size d + vertex_place 0 + suc d ≤ length ws
  cell-within s h e = omega (arith, inside s (list_size d) p (vertex_place d) h (omega arith))

  pub cell-vertex : (j : ℕ) → j ≤ d → get_or ws (p * list_size d + vertex_place 0 + j) 0 ≡ get_or (cell_in d ws p).row j 0
  cell-vertex j h =
      let at = p * list_size d + vertex_place 0 in
      sym (ap (λ w. get_or w j 0) cell_row_lem ∙ get_or-take (suc d) (drop at ws) j 0 (omega arith) ∙ get_or-drop at ws j 0)
