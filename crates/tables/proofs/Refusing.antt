-- Rows 6, 7, 8 and 18 of a list of records, and its cells in ascending order, as the code holds them.
--   first-sign, first-vertex, first-twice, first-material     what each of them is where it is the first
use mathlib.Core.Path.{◌≡◌, refl, sym, ap, ◌∙◌}
use mathlib.Core.Bool.{Bool, true, false, not, true≢false}
use mathlib.Core.List.{List, [], map}
use Prim.Native.Nat.{ℕ, zero, suc, ◌*◌, ◌≤◌, ◌<◌}
use native.Mathlib.Omega.{arith}
use native.Mathlib.Nat.{not-suc-le-zero, le_of_suc-le-suc}
use lib.Dec.{leb, ltb}
use lib.ListN.{length, get_or, take, drop, length-drop}
use lib.Seq.{length-take-le, get_or-take, get_or-drop}
use borrow.Author.Tests.{leb-true, leb-false, lt-ltb, le-ltb}
use Rattle.words.specs.Records.{any_of, part, tabulate, any_below}
use Rattle.words.proofs.Records.{EachLong, part-concat, tabulate_at, tabulate_ext, tabulate-length, tabulate-map}
use Rattle.rules.specs.Limits.{max_material}
use Rattle.rules.specs.Calls.{first_refusal}
use Rattle.simplex.specs.Cell.{Cell, Sign}
use Rattle.simplex.specs.Order.{ascending, sorted}
use Rattle.solids.specs.Accept.{Listed, bad_material, bad_sign, listed_cells, repeats, solid_of, solid_rules, vertex_beyond, vertex_twice}
use Rattle.tables.specs.Inner.Held.{above_at, beyond_at, cell_held, cell_read, falls, faults, held_cells, material_at, record_list}
use Rattle.records.specs.Layout.{cell_in, cell_of, list_size, material_place, vertex_place}
use Rattle.tables.proofs.Adjacent.{held_falls, held_vertex}
use Rattle.words.proofs.Below.{below_not, some_below, true_unless}
use Rattle.records.proofs.Parts.{part-within}
use Rattle.tables.proofs.Stored.{read-material}
use Rattle.tables.proofs.SortedTests.{beyond_last, falls_in, twice-falls}
use Rattle.solids.proofs.Solid.{each_tabulated}
use Rattle.solids.proofs.Tests.{of_none, or_false}

any_at : {A : Type 0} (q : A → Bool) (n : ℕ) (f : ℕ → A) (p : ℕ) → p < n → q (f p) ≡ true → any_of q (tabulate n f) ≡ false → ⊥
any_at q zero f p h e k = not-suc-le-zero h
any_at q (suc n) f zero h e k = true≢false (sym e ∙ (or_false (q (f 0)) (any_of q (tabulate n (λ i. f (suc i)))) k).0)
any_at q (suc n) f (suc p) h e k =
    any_at q n (λ i. f (suc i)) p (le_of_suc-le-suc h) e (or_false (q (f 0)) (any_of q (tabulate n (λ i. f (suc i)))) k).1

-- a test of a tabulated list is one of the numbers below its length
pub any_tabulate : {A : Type 0} (q : A → Bool) (r : ℕ → Bool) (n : ℕ) (f : ℕ → A) →
    ((p : ℕ) → p < n → q (f p) ≡ r p) → any_of q (tabulate n f) ≡ any_below n r
any_tabulate q r n f h = go (any_below n r) refl
  where
    go : (t : Bool) → any_below n r ≡ t → any_of q (tabulate n f) ≡ t
    go true e = let p = some_below r n e in true_unless (any_of q (tabulate n f)) (any_at q n f p.0 p.1 (h p.0 p.1 ∙ p.2))
    go false e = of_none q (tabulate n f) (each_tabulated (λ x. q x ≡ false) n f (λ p l. h p l ∙ below_not r n e p l))

not_leb : (x : ℕ) → not (leb x 1) ≡ ltb 1 x
not_leb x = go (leb x 1) refl
  where
    go : (t : Bool) → leb x 1 ≡ t → not t ≡ ltb 1 x
    go true e = sym (le-ltb 1 x (leb-true x 1 e))
    go false e = sym (lt-ltb 1 x (leb-false x 1 e))

module _ (l : Listed) where
  pub first-sign : bad_sign l ≡ true → 6 ≡ first_refusal solid_rules l
  unfolding solid_rules
  first-sign six = rw six refl

  pub first-vertex : bad_sign l ≡ false → vertex_beyond l.v (listed_cells l) ≡ true → 7 ≡ first_refusal solid_rules l
  unfolding solid_rules
  first-vertex six seven = rw (six, seven) refl

  pub first-twice : bad_sign l ≡ false → vertex_beyond l.v (listed_cells l) ≡ false → vertex_twice (listed_cells l) ≡ true →
      8 ≡ first_refusal solid_rules l
  unfolding solid_rules
  first-twice six seven eight = rw (six, seven, eight) refl

  pub first-material : bad_sign l ≡ false → vertex_beyond l.v (listed_cells l) ≡ false → vertex_twice (listed_cells l) ≡ false →
      bad_material (listed_cells l) ≡ true → 18 ≡ first_refusal solid_rules l
  unfolding solid_rules
  first-material six seven eight bad = rw (six, seven, eight, bad) refl

module _ (size d v s : ℕ) (ws : List ℕ) (hz : list_size d ≤ size) (room : s * size ≤ length ws) where
  abbrev list : Listed
  list = record_list size d v s ws

  read-long : (p : ℕ) → p < s → length (take (list_size d) (part size p ws)) ≡ list_size d
  read-long p h = length-take-le (list_size d) (part size p ws) (omega (arith, part-within size p s ws h room))

  -- record p of the list
  record_is : (p : ℕ) → p < s → part (list_size d) p (record_list size d v s ws).words ≡ take (list_size d) (part size p ws)
  record_is p h =
      part-concat (list_size d) p (tabulate s (λ p. take (list_size d) (part size p ws)))
      (longs s (λ p. take (list_size d) (part size p ws)) read-long)
      (rw (tabulate-length s (λ p. take (list_size d) (part size p ws))) h)
      ∙ tabulate_at s (λ p. take (list_size d) (part size p ws)) p [] h
    where
      longs : (n : ℕ) (f : ℕ → List ℕ) → ((p : ℕ) → p < n → length (f p) ≡ list_size d) → EachLong (list_size d) (tabulate n f)
      longs zero f h = tt
      longs (suc n) f h = (h 0 (omega arith), longs n (λ i. f (suc i)) (λ p l. h (suc p) (omega arith)))

  listed_is : listed_cells (record_list size d v s ws) ≡ tabulate s (λ p. cell_read size d ws p)
  listed_is = tabulate_ext s (cell_in d list.words) (cell_read size d ws) (λ p h. ap cell_of (record_is p h))

  -- 6
  pub sign_bad : bad_sign (record_list size d v s ws) ≡ any_below s (above_at size 0 1 ws)
  sign_bad =
      any_tabulate (λ x. not (leb x 1)) (above_at size 0 1 ws) s (λ p. get_or (part (list_size d) p list.words) 0 0)
      (λ p h. not_leb (get_or (part (list_size d) p list.words) 0 0)
      ∙ ap (ltb 1) (ap (λ r. get_or r 0 0) (record_is p h) ∙ get_or-take (list_size d) (part size p ws) 0 0 (omega arith)
      ∙ get_or-take size (drop (p * size) ws) 0 0 (omega arith)
      ∙ get_or-drop (p * size) ws 0 0))

  -- 18
  pub material_bad : bad_material (listed_cells (record_list size d v s ws)) ≡ any_below s (above_at size material_place max_material ws)
  material_bad =
      ap bad_material listed_is
      ∙ any_tabulate (λ c. ltb max_material c.material) (above_at size material_place max_material ws) s (λ p. cell_read size d ws p)
      (λ p h. ap (ltb max_material) (read-material size d p ws hz))

  module _ (rows : List ℕ) (signs : List Sign) (hs : s ≤ 4096) (hd : d ≤ 7) (wide : length rows ≡ 32768)
      (held : (p : ℕ) → p < s → cell_held d rows signs (material_at size ws) p ≡ ascending (cell_read size d ws p)) where
    -- the list's cells in ascending order
    pub solid_held : solid_of (record_list size d v s ws) ≡ held_cells d s rows signs (material_at size ws)
    solid_held =
        ap (map ascending) listed_is ∙ tabulate-map ascending s (λ p. cell_read size d ws p)
        ∙ tabulate_ext s (λ p. ascending (cell_read size d ws p)) (λ p. cell_held d rows signs (material_at size ws) p)
        (λ p h. sym (held p h))

    row_held : (p : ℕ) → p < s → take (suc d) (part 8 p rows) ≡ sorted (cell_read size d ws p).row
    row_held p h = ap (λ (c : Cell). c.row) (held p h)

    row-long : (p : ℕ) → p < s → length (cell_read size d ws p).row ≡ suc d
    row-long p h = omega (arith, length-drop (vertex_place 0) (take (list_size d) (part size p ws)), read-long p h)

    -- 7
    pub vertex_beyond_lem : vertex_beyond v (listed_cells (record_list size d v s ws)) ≡ any_below s (beyond_at d v rows)
    vertex_beyond_lem =
        ap (vertex_beyond v) listed_is
        ∙ any_tabulate (λ c. any_of (λ x. leb v x) c.row) (beyond_at d v rows) s (λ p. cell_read size d ws p)
        (λ p h. beyond_last v d (cell_read size d ws p).row (row-long p h)
        ∙ ap (leb v) (ap (λ r. get_or r d 0) (sym (row_held p h))
        ∙ sym (held_vertex d s rows signs (material_at size ws) hd hs wide p d (omega arith))))

    falls_is : (p : ℕ) → p < s → falls d rows p ≡ falls_in d (sorted (cell_read size d ws p).row)
    falls_is p h = held_falls d s rows signs (material_at size ws) hd hs wide p ∙ ap (falls_in d) (row_held p h)

    -- 8
    pub vertex-twice : vertex_twice (listed_cells (record_list size d v s ws)) ≡ any_below s (falls d rows)
    vertex-twice =
        ap vertex_twice listed_is
        ∙ any_tabulate (λ c. repeats c.row) (falls d rows) s (λ p. cell_read size d ws p)
        (λ p h. twice-falls d (cell_read size d ws p).row (row-long p h) ∙ sym (falls_is p h))

    -- where rows 6 to 8 and 18 do not apply, the first refusal is that of the other rows
    pub refused-rest : bad_sign (record_list size d v s ws) ≡ false → vertex_beyond v (listed_cells (record_list size d v s ws)) ≡ false →
        vertex_twice (listed_cells (record_list size d v s ws)) ≡ false → bad_material (listed_cells (record_list size d v s ws)) ≡ false →
        first_refusal solid_rules (record_list size d v s ws) ≡ faults (held_cells d s rows signs (material_at size ws))
    unfolding solid_rules faults
    refused-rest six seven eight bad = rw (six, seven, eight, bad) (ap faults solid_held)
