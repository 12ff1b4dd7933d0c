-- Wings in uploaded order, against those of the cell in ascending order.
--   uploaded_tabulated    the wings of an uploaded cell, by place
--   through_places        read at the places where its vertices stood, they are the wings of the cell in ascending order
--   uploaded_ascending    of a cell uploaded in ascending order they are those wings themselves
--   uploaded_rank         wing j is the one at the place of vertex j in ascending order
--   solid_at              cell p of a list in ascending order
--   written-wings         the wings of cell p in the words of the list's table
--   uploaded_part, uploaded_length_lem    the words of cell p, and how many there are of all
use mathlib.Core.Path.{◌≡◌, sym, ap, ◌∙◌}
use mathlib.Core.List.{List, map}
use Prim.Native.Nat.{ℕ, suc, ◌<◌}
use native.Mathlib.Omega.{arith}
use lib.ListN.{length, get_or, length-map, get_or-map}
use lib.Seq.{ext_get_or}
use Rattle.words.specs.Records.{tabulate, part}
use Rattle.words.proofs.Records.{tabulate_at, tabulate_ext, tabulate-length, tabulate-map, length_tabulated, part_tabulated}
use Rattle.simplex.specs.Cell.{Cell}
use Rattle.simplex.specs.Faces.{without}
use Rattle.simplex.specs.Order.{ascending, below, places, sorted}
use Rattle.simplex.specs.Sort.{Up}
use Rattle.simplex.proofs.Each.{All}
use Rattle.simplex.proofs.Places.{places-below, places-length}
use Rattle.simplex.proofs.Removed.{rank_below, sorted_at_place, sorted_at_rank, up-without}
use Rattle.simplex.proofs.Rows.{Long}
use Rattle.simplex.proofs.Sorting.{sorted-length, sorted_of_up}
use Rattle.records.specs.Layout.{Entry, cell_in, empty, entry_in, list_length, table_words, wings_length, wings_size}
use Rattle.records.proofs.Parts.{default_free}
use Rattle.records.proofs.Places.{entry_at_lem}
use Rattle.solids.specs.Accept.{Listed, solid_of}
use Rattle.solids.specs.Table.{entry_at, table_of, table_of_list}
use Rattle.solids.specs.Uploaded.{uploaded_of_list, uploaded_wings}
use Rattle.solids.specs.Wings.{neighbour, wings_of}
use Rattle.solids.proofs.Accepted.{solid-length, solid-long}
use Rattle.solids.proofs.Codec.{entries_back, table_sized}
use Rattle.solids.proofs.Solid.{all_at}
use Rattle.solids.proofs.Tables.{cell_at, entries_length, map-faces, table_at, wings_tabulated}

module _ (cs : List Cell) (p : ℕ) (c : Cell) where
  -- the neighbour at the face that lacks the vertex at place j, and at that which lacks ascending vertex i
  abbrev lacking : ℕ → ℕ
  lacking j = neighbour p (sorted (without j c.row)) cs

  abbrev ascending_wing : ℕ → ℕ
  ascending_wing i = neighbour p (without i (sorted c.row)) cs

  pub uploaded_tabulated : uploaded_wings cs p c ≡ tabulate (length c.row) lacking
  uploaded_tabulated = map-faces (λ w. neighbour p (sorted w) cs) c.sign c.material c.row

  ascending_tabulated : wings_of cs p (ascending c) ≡ tabulate (length c.row) ascending_wing
  ascending_tabulated = wings_tabulated cs p (ascending c) ∙ ap (λ n. tabulate n ascending_wing) (sorted-length c.row)

  uploaded_at_lem : (j : ℕ) → j < length c.row → get_or (uploaded_wings cs p c) j empty ≡ lacking j
  uploaded_at_lem j h = ap (λ ws. get_or ws j empty) uploaded_tabulated ∙ tabulate_at (length c.row) lacking j empty h

  ascending_at : (i : ℕ) → i < length c.row → get_or (wings_of cs p (ascending c)) i empty ≡ ascending_wing i
  ascending_at i h = ap (λ ws. get_or ws i empty) ascending_tabulated ∙ tabulate_at (length c.row) ascending_wing i empty h

  pub through_places : map (λ j. get_or (uploaded_wings cs p c) j empty) (places c.row) ≡ wings_of cs p (ascending c)
  through_places =
      let read : ℕ → ℕ = λ j. get_or (uploaded_wings cs p c) j empty in
      let many : length (map read (places c.row)) ≡ length c.row = length-map (places c.row) read ∙ places-length c.row in
      ext_get_or empty (map read (places c.row)) (wings_of cs p (ascending c))
      (many ∙ sym (ap length ascending_tabulated ∙ tabulate-length (length c.row) ascending_wing))
      (λ i l. let h : i < length c.row = omega (arith, many) in
      at_place read i h ∙ uploaded_at_lem (get_or (places c.row) i 0) (places-below c.row i h)
      ∙ ap (λ w. neighbour p w cs) (sorted_at_place i c.row h) ∙ sym (ascending_at i h))
    where
      at_place : (read : ℕ → ℕ) (i : ℕ) → i < length c.row →
          get_or (map read (places c.row)) i empty ≡ read (get_or (places c.row) i 0)
      at_place read i h =
          default_free (map read (places c.row)) i empty (read 0)
          (omega (arith, length-map (places c.row) read, places-length c.row)) ∙ get_or-map read (places c.row) i 0

  pub uploaded_rank : (j : ℕ) → j < length c.row →
      lacking j ≡ get_or (wings_of cs p (ascending c)) (below (get_or c.row j 0) c.row) empty
  uploaded_rank j h =
      ap (λ w. neighbour p w cs) (sorted_at_rank j c.row h)
      ∙ sym (ascending_at (below (get_or c.row j 0) c.row) (rank_below j c.row h))

  -- where the cell was uploaded in ascending order, both orders are one
  pub uploaded_ascending : Up c.row → uploaded_wings cs p c ≡ wings_of cs p (ascending c)
  uploaded_ascending u =
      uploaded_tabulated
      ∙ tabulate_ext (length c.row) lacking ascending_wing
      (λ j h. ap (λ w. neighbour p w cs)
      (sorted_of_up (without j c.row) (up-without j c.row u) ∙ ap (without j) (sym (sorted_of_up c.row u))))
      ∙ sym ascending_tabulated

module _ (l : Listed) (e : length l.words ≡ list_length l.d l.s) where
  abbrev told : ℕ → Cell
  told p = cell_in l.d l.words p

  long : All (Long (suc l.d)) (solid_of l)
  long = solid-long l e

  many : length (solid_of l) ≡ l.s
  many = solid-length l

  module _ (p : ℕ) (h : p < l.s) where
    pub solid_at : cell_at (solid_of l) p ≡ ascending (told p)
    solid_at =
        ap (λ cs. cell_at cs p) (tabulate-map ascending l.s told) ∙ tabulate_at l.s (λ q. ascending (told q)) p _ h

    pub told-long : length (told p).row ≡ suc l.d
    told-long = sym (sorted-length (told p).row) ∙ ap (λ (c : Cell). length c.row) (sym solid_at)
        ∙ all_at (Long (suc l.d)) (solid_of l) long p (omega (arith, many))

    written_entry : entry_in l.d (table_of_list l) p ≡ record { cell = ascending (told p); wings = wings_of (solid_of l) p (ascending (told p)) }
    unfolding table_of_list
    written_entry =
        let es : List Entry = table_of (solid_of l) in
        let count : length es ≡ l.s = entries_length (solid_of l) 0 (solid_of l) ∙ many in
        sym (entry_at_lem l.d (length es) p (table_words es) _ (omega (arith, count)))
        ∙ ap (λ xs. entry_at xs p) (entries_back l.d es (table_sized l.d (solid_of l) 0 (solid_of l) long))
        ∙ table_at (solid_of l) p (omega (arith, many))
        ∙ ap (λ (c : Cell). record { cell = c; wings = wings_of (solid_of l) p c }) solid_at

    pub written-wings : (entry_in l.d (table_of_list l) p).wings ≡ wings_of (solid_of l) p (ascending (told p))
    written-wings = ap (λ (x : Entry). x.wings) written_entry

  uploaded_long : (p : ℕ) → p < l.s → length (uploaded_wings (solid_of l) p (told p)) ≡ wings_size l.d
  uploaded_long p h =
      ap length (uploaded_tabulated (solid_of l) p (told p))
      ∙ tabulate-length (length (told p).row) (λ j. neighbour p (sorted (without j (told p).row)) (solid_of l)) ∙ told-long p h

  pub uploaded_length_lem : length (uploaded_of_list l) ≡ wings_length l.d l.s
  unfolding uploaded_of_list
  uploaded_length_lem = length_tabulated (wings_size l.d) l.s (λ p. uploaded_wings (solid_of l) p (told p)) uploaded_long

  pub uploaded_part : (p : ℕ) → p < l.s → part (wings_size l.d) p (uploaded_of_list l) ≡ uploaded_wings (solid_of l) p (told p)
  unfolding uploaded_of_list
  uploaded_part p h = part_tabulated (wings_size l.d) l.s p (λ q. uploaded_wings (solid_of l) q (told q)) uploaded_long h
